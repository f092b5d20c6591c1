use Rattle.std.proofs.Common.{◌≡◌, ◌≤◌, drop, length, false}
use Rattle.std.specs.List.{list_any}
use Rattle.libmount.specs.MountTables.{is_at}
use Rattle.fuse_mnt.proofs.lookups.last_at.Given as goal

abbrev pub invariant-rows : goal.invariant-rows
invariant-rows l = record {
  within : l.at ≤ length l.rows;
  none : list_any (is_at l.path) (drop l.at l.rows) ≡ false;
}

abbrev pub decreases-rows : goal.decreases-rows
decreases-rows l = l.at
