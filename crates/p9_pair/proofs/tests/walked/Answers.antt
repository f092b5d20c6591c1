-- A walk that is answered leaves fids 1 and 2.
use Rattle.p9_pair.proofs.Calling.{walked_fids}
use Rattle.p9_pair.proofs.tests.walked.Goals as goal

pub returns-in-Ok-clause-fids : goal.returns-in-Ok-clause-fids
returns-in-Ok-clause-fids g c = walked_fids _ _ _ _ c.in_ok-walk_one.field-0 _ c.in-Ok.is
    c.args.name.now c.requires.fids c.in_ok-walk_one.ensures.answer.asks
