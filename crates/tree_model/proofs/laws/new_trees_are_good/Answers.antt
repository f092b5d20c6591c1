-- The lemma on new trees.
use Rattle.tree_model.proofs.Files.{new_tree_good}
use Rattle.tree_model.proofs.laws.new_trees_are_good.Goals as goal

pub returns : goal.returns
returns c = λ limits moment born mode uid gid l m b r. new_tree_good limits moment born mode uid gid
    l m b r
