use Rattle.mount9_run.proofs.Causes.{served_exactly}
use Rattle.mount9_run.proofs.laws.valid_input_is_served.Goals as goal

pub returns : goal.returns
returns c words bytes = served_exactly words bytes
