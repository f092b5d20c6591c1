use Rattle.std.proofs.Common.{◌≡◌, take}
use Rattle.std.specs.Prelude.{filter}
use Rattle.libmount.specs.MountTables.{stays_among}
use Rattle.fuse_mnt.proofs.moving.others.Given as goal

abbrev pub invariant-loop-row : goal.invariant-loop-row
invariant-loop-row l = l.others.items ≡ filter (stays_among l.ids) (take l.row-index l.rows)
