-- The lemma on added records.
use Rattle.std.proofs.Common.{refl}
use Rattle.tree_model.specs.Making.{create_refused}
use Rattle.tree_model.specs.Placing.{link_record}
use Rattle.tree_model.proofs.Placing.{placed_good, new_link}
use Rattle.tree_model.proofs.laws.trees_with_a_link_are_good.Goals as goal

pub returns : goal.returns
returns c = λ t born dir name target uid gid ino u g stamp fine good made.
    placed_good t g dir name (link_record born uid gid target)
    (new_link born uid gid dir target stamp good) fine (create_refused t dir name) refl ino u
    made
