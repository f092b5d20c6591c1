-- A frame that is answered behind others is one of them.
use Rattle.frame_pump.proofs.Answering.{Answered-more}
use Rattle.frame_pump.proofs.laws.one_more_is_answered.Goals as goal

pub returns : goal.returns
returns c = Answered-more
