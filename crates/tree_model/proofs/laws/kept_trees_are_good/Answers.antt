-- The lemma on what is kept.
use Rattle.tree_model.proofs.Keeping.{keep_good}
use Rattle.tree_model.proofs.laws.kept_trees_are_good.Goals as goal

pub returns : goal.returns
returns c = λ t held g. keep_good t g held
