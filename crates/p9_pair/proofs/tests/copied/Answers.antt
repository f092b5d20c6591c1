-- A copy that is answered leaves fids 1 to 3.
use Rattle.p9_pair.proofs.Calling.{copied_fids}
use Rattle.p9_pair.proofs.tests.copied.Goals as goal

pub returns-in-Ok-clause-fids : goal.returns-in-Ok-clause-fids
returns-in-Ok-clause-fids g c = copied_fids _ _ _ _ c.in_ok-copy_fid.field-0 _ c.in-Ok.is
    c.requires.fids c.in_ok-copy_fid.ensures.answer.asks
