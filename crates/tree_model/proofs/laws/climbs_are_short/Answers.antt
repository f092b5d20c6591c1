-- The lemma on climbs.
use Rattle.tree_model.proofs.Climbing.{enough_steps}
use Rattle.tree_model.proofs.laws.climbs_are_short.Goals as goal

pub returns : goal.returns
returns c = λ t ino steps dir g is. enough_steps t g ino steps dir is
