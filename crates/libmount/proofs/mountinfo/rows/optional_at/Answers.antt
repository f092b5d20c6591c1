-- The optional fields lie in the row.
use Rattle.libmount.proofs.SliceLemmas.{FieldLiesIn-trans, LiesIn-trans}
use Rattle.libmount.proofs.mountinfo.rows.optional_at.Goals as goal

pub returns-clause-parts : goal.returns-clause-parts
returns-clause-parts c =
    let field = c.in_ok-field.ensures.parts in (
      FieldLiesIn-trans _ _ (LiesIn-trans _ _ _ field.0 c.without_trailing_spaces.ensures.part)
          c.in_ok-text.text c.in_ok-text.ensures.part,
      field.1,
    )
