-- Bodies and links stay.
use Rattle.std.proofs.Common.{◌%◌}
use Rattle.tree_model.specs.Tree.{Record, body_at}
use Rattle.tree_model.specs.Attributing.{refused_at, refused_for_link}
use Rattle.tree_model.proofs.Attributing.{changed_good, changing_good, mode_good, low_mode}
use Rattle.tree_model.proofs.laws.trees_with_another_mode_are_good.Goals as goal

pub returns : goal.returns
returns c = λ t u ino mode g is.
    changing_good tt tt (λ (r : Record). record r { mode = mode % 4096; ctime = t.moment }) ino t u
    (refused_at refused_for_link (body_at t.records ino)) is
    (changed_good t g (λ (r : Record). record r { mode = mode % 4096; ctime = t.moment }) ino
    (mode_good t g ino (mode % 4096) (low_mode mode)))
