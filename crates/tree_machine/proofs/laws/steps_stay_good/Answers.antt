-- A step from a good state leads to a good state.
use Rattle.tree_machine.proofs.Steps.{step_good}
use Rattle.tree_machine.proofs.laws.steps_stay_good.Goals as goal

pub returns : goal.returns
returns c = step_good
