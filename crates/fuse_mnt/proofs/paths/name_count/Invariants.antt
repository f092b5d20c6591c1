use Rattle.std.proofs.Common.{◌≡◌, ◌≤◌, ◌+◌, length}
use Rattle.port_base.specs.Paths.{names}
use Rattle.fuse_mnt.proofs.paths.name_count.Given as goal

abbrev pub invariant-names : goal.invariant-names
invariant-names l = record {
  count : l.count + length (names l.rest) ≡ length (names l.path);
  small : l.count + length l.rest ≤ length l.path;
}

abbrev pub decreases-names : goal.decreases-names
decreases-names l = length l.rest
