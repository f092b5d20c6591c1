use Rattle.mount9_run.proofs.Causes.{stopped_exactly}
use Rattle.mount9_run.proofs.laws.stopped_input_is_told.Goals as goal

pub returns : goal.returns
returns c words bytes = stopped_exactly words bytes
