-- How a table in memory stands for one.
use Rattle.std.specs.Prelude.{◌≡◌, ℕ, ◌+◌, ◌<◌, List, [], ◌∷◌, ◌++◌, length, drop, true, false, Option}
use Rattle.std.specs.Prelude.{Some, None, slice_index_or, codes}
use Rattle.std.specs.Prelude.{◌≤◌, take}
use Rattle.std.specs.List.{list_any}
use Rattle.std.specs.Fmt.{decimal}
use Rattle.port_base.specs.Flags.{bits_of}
use Rattle.libmount.specs.BuilderTexts.{Named}
use Rattle.libmount.specs.MountTables.{Mount, MountTable, cover, is_at, root_mount}
use Rattle.fuse_mnt.specs.declared.rows.ShownName.{ShownName}

-- a name behind a slash
abbrev pub behind_slash : List ℕ → List ℕ
behind_slash name = codes "/" ++ name

-- the top, where a path has no names
abbrev pub or_top : List ℕ → List ℕ
or_top [] = codes "/"
or_top (byte ∷ bytes) = byte ∷ bytes

abbrev pub named : ShownName → Named
named row = record { flag = bits_of row.flag; name = row.name.now }

-- the numbers of a row, with a space behind each
abbrev pub row_numbers : Mount → List ℕ
row_numbers row = decimal row.id
    ++ (codes " " ++ (decimal row.parent ++ (codes " 0:" ++ (decimal row.minor ++ codes " "))))

-- the last row at a path stands at this place, or none is at it
abbrev pub IsLastAt : List ℕ → List Mount → Option ℕ → Type 0
IsLastAt path rows None = list_any (is_at path) rows ≡ false
IsLastAt path rows (Some at) = (at < length rows)
    × (is_at path (slice_index_or rows at root_mount) ≡ true)
    × (list_any (is_at path) (drop (at + 1) rows) ≡ false)

-- the number of the mount that shows a path
unfoldable pub cover_id : List ℕ → List Mount → ℕ
cover_id path rows = (cover path rows).id

-- so many rows are as they were, others may have come, and of the rest only the next number changed
pub record IsGrown (count : ℕ) (old new : MountTable) : Type 0 where
  pub front : take count new.rows ≡ take count old.rows
  pub longer : count ≤ length new.rows
  pub present : new.present ≡ old.present
  pub permitted : new.permitted ≡ old.permitted
  pub next_minor : new.next_minor ≡ old.next_minor
