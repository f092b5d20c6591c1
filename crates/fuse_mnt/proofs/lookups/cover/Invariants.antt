use Rattle.std.proofs.Common.{◌≡◌, take, slice_index_or}
use Rattle.std.specs.List.{fold}
use Rattle.libmount.specs.MountTables.{nearer, root_mount}
use Rattle.fuse_mnt.proofs.lookups.cover.Given as goal

abbrev pub invariant-loop-row : goal.invariant-loop-row
invariant-loop-row l = l.best ≡ fold (nearer l.path) (slice_index_or l.rows 0 root_mount)
    (take l.row-index l.rows)
