-- No slash stands behind what is left.
use Rattle.std.proofs.Common.{◌≡◌, ◌≤◌, length}
use Rattle.std.specs.Path.{rfind_below}
use Rattle.mount9_run.proofs.header.path.last_slash.Given as goal

abbrev pub invariant-bytes : goal.invariant-bytes
invariant-bytes l = (rfind_below 47 l.path (length l.path) ≡ rfind_below 47 l.path l.end)
    × (l.end ≤ length l.path)

abbrev pub decreases-bytes : goal.decreases-bytes
decreases-bytes l = l.end
