use Rattle.std.proofs.Common.{◌≡◌, ◌++◌, take}
use Rattle.std.specs.Prelude.{codes}
use Rattle.std.specs.List.{flat_map}
use Rattle.libmount.specs.MountTables.{Mount, print_row}
use Rattle.fuse_mnt.proofs.table.Table.print.Given as goal

abbrev pub invariant-loop-row : goal.invariant-loop-row
invariant-loop-row l = l.out.items ≡ flat_map (λ (row : Mount). print_row row ++ codes "\n")
    (take l.row-index l.self.rows)
