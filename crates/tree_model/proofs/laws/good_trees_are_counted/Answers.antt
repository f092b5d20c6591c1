-- The lemma on good trees.
use Rattle.tree_model.proofs.Files.{good_is_counted}
use Rattle.tree_model.proofs.laws.good_trees_are_counted.Goals as goal

pub returns : goal.returns
returns c = λ t held g s. good_is_counted t held g s
