-- Bodies and links stay.
use Rattle.std.proofs.Common.{unwrap_or}
use Rattle.tree_model.specs.Tree.{Record, body_at}
use Rattle.tree_model.specs.Attributing.{refused_at, never}
use Rattle.tree_model.proofs.Attributing.{changed_good, changing_good, owned_good}
use Rattle.tree_model.proofs.laws.trees_with_other_owners_are_good.Goals as goal

pub returns : goal.returns
returns c = λ t u ino uid gid g is.
    changing_good tt tt (λ (r : Record). record r
    { uid = unwrap_or uid r.uid; gid = unwrap_or gid r.gid; ctime = t.moment }) ino t u
    (refused_at never (body_at t.records ino)) is
    (changed_good t g (λ (r : Record). record r
    { uid = unwrap_or uid r.uid; gid = unwrap_or gid r.gid; ctime = t.moment }) ino
    (λ r at. owned_good t g ino (unwrap_or uid r.uid) (unwrap_or gid r.gid) r at))
