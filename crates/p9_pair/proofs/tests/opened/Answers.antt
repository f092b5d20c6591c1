-- A fid that was opened to be read is readable.
use Rattle.p9_pair.proofs.Calling.{opened_readable}
use Rattle.p9_pair.proofs.tests.opened.Goals as goal

pub returns-in-Ok-clause-readable : goal.returns-in-Ok-clause-readable
returns-in-Ok-clause-readable g c = opened_readable _ _ _ _ c.in_ok-open.field-0 _ c.in-Ok.is
    c.requires.fids c.in_ok-open.ensures.answer.asks
