-- A field and what follows it are parts of what was cut.
use Rattle.libmount.proofs.SliceLemmas.{LiesIn-trans}
use Rattle.libmount.proofs.mountinfo.cuts.field.Goals as goal

pub returns-clause-parts : goal.returns-clause-parts
returns-clause-parts c =
    let trimmed = c.without_leading_spaces.ensures.part in
    (LiesIn-trans _ _ _ trimmed c.cut.ensures.front, LiesIn-trans _ _ _ trimmed c.cut.ensures.rest)
