-- The names of a map after an insertion.
use Rattle.tree_model.specs.Tree.{names_in}
use Rattle.tree_model.proofs.Counting.{weigh-insert}
use Rattle.tree_model.proofs.laws.count_after_change.Goals as goal

pub returns : goal.returns
returns c = λ rs k i r. weigh-insert (names_in i) rs k r
