-- The lemma on one more name.
use Rattle.std.proofs.Common.{refl}
use Rattle.std.specs.FinMap.{get}
use Rattle.tree_model.specs.Tree.{body_at, is_linked}
use Rattle.tree_model.specs.Placing.{link_refused}
use Rattle.tree_model.proofs.Joining.{linked_unless_good}
use Rattle.tree_model.proofs.laws.trees_with_one_more_name_are_good.Goals as goal

pub returns : goal.returns
returns c = λ t dir ino name n u g fine made.
    linked_unless_good t g dir ino name fine (link_refused (is_linked t.records dir) t.limits name
    (body_at t.records dir) (get t.records ino)) refl n u made
