-- Files stay files, and what is written ends by the limit.
use Rattle.std.proofs.Common.{length}
use Rattle.tree_model.specs.Attributing.{fitting, overwritten_at, write_refused}
use Rattle.tree_model.proofs.Attributing.{call_good}
use Rattle.tree_model.proofs.Rewriting.{overwritten_good}
use Rattle.tree_model.proofs.laws.trees_with_written_bytes_are_good.Goals as goal

pub returns : goal.returns
returns c = λ t u ino offset count new g is.
    call_good t g ino (write_refused t.limits.file offset new)
    (overwritten_at t.moment offset (fitting t.limits.file offset new))
    (overwritten_good t g ino offset new)
    (length (fitting t.limits.file offset new)) count u is
