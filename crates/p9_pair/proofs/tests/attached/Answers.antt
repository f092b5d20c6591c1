-- An attach that is answered leaves fid 1.
use Rattle.p9_pair.proofs.Calling.{attached_fids}
use Rattle.p9_pair.proofs.tests.attached.Goals as goal

pub returns-in-Ok-clause-fids : goal.returns-in-Ok-clause-fids
returns-in-Ok-clause-fids g c = attached_fids _ _ _ _ c.in_ok-attach.field-0 _ c.in-Ok.is
    c.requires.none c.in_ok-attach.ensures.answer.asks
