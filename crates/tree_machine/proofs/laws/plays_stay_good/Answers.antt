-- Each state of a run is good.
use Rattle.tree_machine.specs.State.{begun}
use Rattle.tree_machine.proofs.Steps.{play_good}
use Rattle.tree_machine.proofs.Begun.{begun_good}
use Rattle.tree_machine.proofs.laws.plays_stay_good.Goals as goal

pub returns : goal.returns
returns c s t root frames good found room = play_good s (begun t root) frames
    (begun_good s t root good found room)
