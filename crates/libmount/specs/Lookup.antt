-- The flags of a mount, looked up in a table.
use Rattle.std.specs.Prelude.{ℕ, List, Option, Some, None, Result, Ok, Err, if◌then◌else◌, reverse}
use Rattle.std.specs.Prelude.{slice_get}
use Rattle.std.specs.List.{filter_map}
use Rattle.std.specs.Option.{option_map}
use Rattle.port_base.specs.Paths.{same_path}
use Rattle.libmount.specs.Items.{line_feed}
use Rattle.libmount.specs.Options.{flags_of}
use Rattle.libmount.specs.Parts.{parts}
use Rattle.libmount.specs.Reading.{Message}
use Rattle.libmount.specs.Rows.{Row, row, text_bytes}

-- the flags of a row whose mount point is the path
abbrev pub flags_at : List ℕ → Row → Option ℕ
flags_at path row = if same_path (text_bytes row.mount_point) path
    then Some (flags_of (text_bytes row.mount_options)) else None

-- the flags of a row that has the path, or the message of a refused row; every other line has no
-- say
abbrev pub verdict_by : List ℕ → Result (Option Row) Message → Option (Result ℕ Message)
verdict_by path (Ok None) = None
verdict_by path (Ok (Some row)) = option_map Ok (flags_at path row)
verdict_by path (Err message) = Some (Err message)

-- where the line begins doesn't matter
unfoldable pub verdict : List ℕ → List ℕ → Option (Result ℕ Message)
verdict path line = verdict_by path (row (0, line))

abbrev pub or_none : Option (Result ℕ Message) → Result (Option ℕ) Message
or_none None = Ok None
or_none (Some (Ok flags)) = Ok (Some flags)
or_none (Some (Err message)) = Err message

-- the lines that have a say, from the last one back
abbrev pub verdicts : List ℕ → Option (List ℕ) → List (Result ℕ Message)
verdicts path content = filter_map (verdict path) (reverse (parts line_feed content))

-- what the last line that has a say says
unfoldable pub flags_in : List ℕ → List ℕ → Result (Option ℕ) Message
flags_in path content = or_none (slice_get (verdicts path (Some content)) 0)
