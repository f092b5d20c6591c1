-- Each answer is that of the loop, with the number of messages.
use Rattle.frame_pump.proofs.Telling.{Runs-complete, Runs-stopped}
use Rattle.frame_pump.proofs.run.run_frames.Goals as goal

pub returns-in-Ok-clause-runs : goal.returns-in-Ok-clause-runs
returns-in-Ok-clause-runs g c = Runs-complete _ _ _ _ _ _ _ _ c.messages_sent-nine_frames.ensures
    c.in-Ok.ensures.loops

pub returns-in-Err-clause-runs : goal.returns-in-Err-clause-runs
returns-in-Err-clause-runs g c = Runs-stopped _ _ _ _ _ _ _ _ c.in-Err.halt.cause
    c.messages_sent-nine_frames.ensures c.in-Err.ensures.loops
