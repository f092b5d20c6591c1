use Rattle.std.proofs.Common.{◌≡◌, drop}
use Rattle.std.specs.List.{list_any}
use Rattle.libmount.specs.MountTables.{is_parent_of}
use Rattle.fuse_mnt.proofs.lookups.is_parent.Given as goal

abbrev pub invariant-loop-other : goal.invariant-loop-other
invariant-loop-other l = list_any (is_parent_of l.row) l.rows ≡ list_any (is_parent_of l.row)
    (drop l.other-index l.rows)
