-- The lemma on what is linked.
use Rattle.tree_model.proofs.Keeping.{linked_good}
use Rattle.tree_model.proofs.laws.linked_trees_are_good.Goals as goal

pub returns : goal.returns
returns c = λ t g. linked_good t g
