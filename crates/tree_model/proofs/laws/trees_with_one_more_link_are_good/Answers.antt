-- The lemma on one more name.
use Rattle.std.specs.FinMap.{get}
use Rattle.tree_model.specs.Tree.{body_at, is_linked}
use Rattle.tree_model.specs.Placing.{link_refused}
use Rattle.tree_model.specs.Creating.{with_name}
use Rattle.tree_model.proofs.Creating.{made_good, with_name_good}
use Rattle.tree_model.proofs.laws.trees_with_one_more_link_are_good.Goals as goal

pub returns : goal.returns
returns c = λ t u dir ino name g fine made.
    made_good (link_refused (is_linked t.records dir) t.limits name (body_at t.records dir)
    (get t.records ino)) tt tt (with_name t dir name ino) u made
    (λ free. with_name_good t g dir ino name free fine)
