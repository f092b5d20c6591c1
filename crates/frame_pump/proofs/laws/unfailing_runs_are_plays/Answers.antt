-- Where no fault was counted, frames are answered as the machine answers them.
use Rattle.frame_pump.proofs.Answering.{Answered-exact}
use Rattle.frame_pump.proofs.laws.unfailing_runs_are_plays.Goals as goal

pub returns : goal.returns
returns c = Answered-exact
