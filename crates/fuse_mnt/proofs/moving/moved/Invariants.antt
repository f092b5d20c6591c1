use Rattle.std.proofs.Common.{◌≡◌, take, map}
use Rattle.std.specs.Prelude.{filter}
use Rattle.libmount.specs.MountTables.{is_among, moved_row}
use Rattle.fuse_mnt.proofs.moving.moved.Given as goal

abbrev pub invariant-loop-row : goal.invariant-loop-row
invariant-loop-row l = l.moved.items ≡ map (moved_row l.source l.target)
    (filter (is_among l.ids) (take l.row-index l.rows))
