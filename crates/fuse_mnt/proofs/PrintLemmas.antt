-- What a table prints is read back.
use Rattle.std.proofs.Common.{◌≡◌, ℕ, List, Result, Ok, Err, sym, subst}
use Rattle.std.specs.Prelude.{IfOk, Vec}
use Rattle.std.specs.Global.{Global}
use Rattle.std.specs.List.{AllZip}
use Rattle.libmount.specs.Items.{items}
use Rattle.libmount.specs.declared.mounter.MountFault.{MountFault}
use Rattle.libmount.specs.MountTables.{MountTable, print_table}
use Rattle.libmount.specs.ReadBack.{IsItemOf}
use Rattle.libmount.proofs.PrintedTables.{table_shown}
use Rattle.fuse_mnt.specs.Kept.{IsKept, good_from_kept}

pub read_back : (table : MountTable) (result : Result (Vec ℕ Global) MountFault) → IsKept table
    → IfOk result (λ text. text.items ≡ print_table table)
    → IfOk result (λ text. (place : ℕ) → AllZip IsItemOf table.rows (items (place, text.items)))
read_back table (Ok text) kept printed = λ place.
    subst (λ (bytes : List ℕ). AllZip IsItemOf table.rows (items (place, bytes))) (sym printed)
    (table_shown table place (good_from_kept table kept))
read_back table (Err why) kept printed = tt
