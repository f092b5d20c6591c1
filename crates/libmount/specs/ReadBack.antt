-- What a printed table of mounts is read back as.
use Rattle.std.specs.Prelude.{◌≡◌, ℕ, List, [], Option, Some, None, Result, Ok, Err}
use Rattle.std.specs.Option.{option_map}
use Rattle.libmount.specs.Items.{Item}
use Rattle.libmount.specs.MountTables.{Mount, last_at}
use Rattle.libmount.specs.Options.{flags_of}
use Rattle.libmount.specs.Reading.{Message}
use Rattle.libmount.specs.Rows.{Row, text_bytes}

-- the mount that a row shows
abbrev pub shown_mount : Row → Mount
shown_mount row = record {
  id = row.mount_id;
  parent = row.parent_id;
  minor = row.minor;
  root = text_bytes row.root;
  point = text_bytes row.mount_point;
  flags = flags_of (text_bytes row.mount_options);
  fstype = text_bytes row.fstype;
  source = text_bytes row.mount_source;
  super_options = text_bytes row.super_options;
}

-- a row shows this mount, on no device and with no optional fields
pub record Shows (printed : Mount) (row : Row) : Type 0 where
  pub mount : shown_mount row ≡ printed
  pub major : row.major ≡ 0
  pub optional_fields : text_bytes row.optional_fields ≡ []

-- a line is a row that shows this mount
abbrev pub IsReadBack : Mount → Result (Option Row) Message → Type 0
IsReadBack mount (Ok (Some row)) = Shows mount row
IsReadBack mount (Ok None) = ⊥
IsReadBack mount (Err message) = ⊥

-- what a parser gives is a row that shows this mount
abbrev pub IsItemOf : Mount → Item → Type 0
IsItemOf mount (Ok row) = Shows mount row
IsItemOf mount (Err refused) = ⊥

-- the flags of the last mount at a path
abbrev pub flags_of_last : List ℕ → List Mount → Option ℕ
flags_of_last path rows = option_map (λ row. row.flags) (last_at path rows)
