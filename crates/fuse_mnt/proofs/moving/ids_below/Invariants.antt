use Rattle.std.proofs.Common.{◌≡◌, ◌∷◌, [], take}
use Rattle.std.specs.List.{fold}
use Rattle.libmount.specs.MountTables.{with_child}
use Rattle.fuse_mnt.proofs.moving.ids_below.Given as goal

abbrev pub invariant-loop-row : goal.invariant-loop-row
invariant-loop-row l = l.ids.items ≡ fold with_child (l.top ∷ []) (take l.row-index l.rows)
