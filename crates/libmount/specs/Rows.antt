-- Rows of a mountinfo table, as proc(5) describes them.
use Rattle.std.specs.Prelude.{ℕ, List, length, drop, Bool, ◌==◌, ◌||◌, if◌then◌else◌, slice_index}
use Rattle.std.specs.Prelude.{Option, Some, None, Result, Ok}
use Rattle.std.specs.List.{prefix_len}
use Rattle.std.specs.Str.Lines.{strip_carriage_return}
use Rattle.libmount.specs.Cuts.{Placed, space, colon, dash, without_trailing_spaces}
use Rattle.libmount.specs.Escapes.{has_escape, decoded}
use Rattle.libmount.specs.Numbers.{number_at, number_field}
use Rattle.libmount.specs.Reading.{Message, ◌>>=◌, field_at}

-- a text field: a part of the row as it stands there, with its place, or what its escapes were
-- decoded to
pub data Text : Type 0 where
  borrowed : Placed → Text
  owned : List ℕ → Text

abbrev pub text_bytes : Text → List ℕ
text_bytes (borrowed part) = part.1
text_bytes (owned bytes) = bytes

abbrev pub text_of : Placed → Text
text_of field = if has_escape field.1 then owned (decoded field.1) else borrowed field

-- a mounted file system
pub record Row : Type 0 where
  pub mount_id : ℕ
  pub parent_id : ℕ
  pub major : ℕ
  pub minor : ℕ
  pub root : Text
  pub mount_point : Text
  pub mount_options : Text
  pub optional_fields : Text
  pub fstype : Text
  pub mount_source : Text
  pub super_options : Text

-- a text up to a space, and what follows it
unfoldable pub text_at : Placed → Result (Text × Placed) Message
text_at part = do
  field ← field_at space part
  Ok (text_of field.0, field.1)

-- the optional fields, which a dash and a space end
unfoldable pub optional_at : Placed → Result (Text × Placed) Message
optional_at part = do
  field ← field_at dash part
  Ok (text_of (field.0.0, without_trailing_spaces field.0.1), field.1)

-- the eleven fields in order; what follows them is passed over
unfoldable pub fields_of : Placed → Result Row Message
fields_of row = do
  mount_id ← number_at row
  parent_id ← number_at mount_id.1
  major ← number_field colon parent_id.1
  minor ← number_field space major.1
  root ← text_at minor.1
  mount_point ← text_at root.1
  mount_options ← text_at mount_point.1
  optional_fields ← optional_at mount_options.1
  fstype ← text_at optional_fields.1
  mount_source ← text_at fstype.1
  super_options ← text_at mount_source.1
  Ok (record {
    mount_id = mount_id.0;
    parent_id = parent_id.0;
    major = major.0;
    minor = minor.0;
    root = root.0;
    mount_point = mount_point.0;
    mount_options = mount_options.0;
    optional_fields = optional_fields.0;
    fstype = fstype.0;
    mount_source = mount_source.0;
    super_options = super_options.0;
  })

abbrev pub is_blank : ℕ → Bool
is_blank byte = (byte == 32) || (byte == 9)

-- an empty row, or spaces and tabs and then a number sign
abbrev pub is_skipped : List ℕ → Bool
is_skipped row = (length row == 0) || (slice_index (drop (prefix_len is_blank row) row) 0 == 35)

-- a row without its carriage return: nothing where it is skipped, else its fields
unfoldable pub row_of : Placed → Result (Option Row) Message
row_of row = if is_skipped row.1 then Ok None else (fields_of row >>= λ fields. Ok (Some fields))

-- what a line says that begins at a place
unfoldable pub row : Placed → Result (Option Row) Message
row line = row_of (line.0, strip_carriage_return line.1)
