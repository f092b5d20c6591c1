-- The lemma on added records.
use Rattle.std.proofs.Common.{refl}
use Rattle.tree_model.specs.Making.{create_refused}
use Rattle.tree_model.specs.Placing.{directory_record}
use Rattle.tree_model.proofs.Placing.{placed_good, new_directory}
use Rattle.tree_model.proofs.laws.trees_with_a_directory_are_good.Goals as goal

pub returns : goal.returns
returns c = λ t born dir name mode uid gid ino u g stamp fine low made.
    placed_good t g dir name (directory_record born mode uid gid dir)
    (new_directory born mode uid gid dir stamp low) fine (create_refused t dir name) refl ino u
    made
