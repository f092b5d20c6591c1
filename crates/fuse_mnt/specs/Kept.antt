-- What holds of a table of mounts from its first row on.
use Rattle.std.specs.Prelude.{ℕ, ◌<◌, ◌≤◌, ◌^◌, List, [], ◌∷◌, All, Some, Result, Ok, Err}
use Rattle.std.specs.Prelude.{slice_get}
use Rattle.std.proofs.Props.{props}
use Rattle.libmount.specs.Mounters.{IsGoodRow, IsGoodTable, IsRootRow}
use Rattle.libmount.specs.MountTables.{Mount, MountTable}

-- a row with a number behind that of the root
abbrev pub IsLater : Mount → Type 0
IsLater row = 1 < row.id

-- the root's row comes first, and no other has its number
abbrev pub HasTop : List Mount → Type 0
HasTop [] = ⊥
HasTop (row ∷ rows) = IsRootRow (Some row) × All IsLater rows

-- a good table in which the root alone has its number
pub record IsKept (table : MountTable) : Type 0 where
  pub top : HasTop table.rows
  pub rows : All (IsGoodRow table) table.rows
  pub first : 2 ≤ table.next_id
  pub next_id : table.next_id < 2 ^ 64
  pub next_minor : table.next_minor < 2 ^ 64

-- a step that isn't refused leaves such a table
abbrev pub IsKeptIn : Result MountTable ℕ → Type 0
IsKeptIn (Ok table) = IsKept table
IsKeptIn (Err errno) = Unit {0}

-- there is one proof of it at most, so that a ghost field can keep it
pub HasTop-prop : (rows : List Mount) → IsProp (HasTop rows)
HasTop-prop [] = hlevel props
HasTop-prop (row ∷ rows) = hlevel props

pub IsKept-prop : (table : MountTable) → IsProp (IsKept table)
IsKept-prop table = hlevel (props, HasTop-prop)

-- ---- it is a good table

top_first : (rows : List Mount) → HasTop rows → IsRootRow (slice_get rows 0)
top_first [] top = absurd top
top_first (row ∷ rows) top = top.0

pub good_from_kept : (table : MountTable) → IsKept table → IsGoodTable table
good_from_kept table kept = record {
  top = top_first table.rows kept.top;
  rows = kept.rows;
  next_id = kept.next_id;
  next_minor = kept.next_minor;
}
