-- Bodies and links stay.
use Rattle.tree_model.specs.Tree.{body_at}
use Rattle.tree_model.specs.Attributing.{refused_at, never, restamped}
use Rattle.tree_model.proofs.Attributing.{changed_good, changing_good, restamped_good}
use Rattle.tree_model.proofs.laws.trees_with_another_ctime_are_good.Goals as goal

pub returns : goal.returns
returns c = λ t u ino g is.
    changing_good tt tt (restamped t.moment) ino t u (refused_at never (body_at t.records ino)) is
    (changed_good t g (restamped t.moment) ino (restamped_good t g ino))
