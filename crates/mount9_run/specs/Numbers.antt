-- Numbers and modes as text.
use Rattle.std.specs.Prelude.{◌≡◌, ℕ, ◌+◌, ◌-◌, ◌*◌, List, length, Option, Some, None}
use Rattle.std.specs.Prelude.{Result, Ok, ◌==◌, ◌&&◌, ◌||◌, not, nat_lt, slice_index, nat_le}
use Rattle.std.specs.Prelude.{if◌then◌else◌, Bool}
use Rattle.std.specs.List.{list_all}
use Rattle.port_base.specs.Decimals.{number_of}
use Rattle.mount9_run.specs.Reading.{◌>>=◌, or_refused, field_at}

abbrev pub in_range : ℕ → ℕ → Option ℕ → Option ℕ
in_range low high None = None
in_range low high (Some n) = if nat_le low n && nat_le n high then Some n else None

-- a number from low to high
unfoldable pub number_at : ℕ → ℕ → ℕ → List ℕ → Result ℕ ℕ
number_at low high n text = or_refused n (in_range low high (number_of text))

-- the same as a field
unfoldable pub number_field : ℕ → ℕ → ℕ → List ℕ → Result (ℕ × List ℕ) ℕ
number_field low high n line = do
  f ← field_at n line
  v ← number_at low high n f.0
  Ok (v, f.1)

abbrev pub is_octal : ℕ → Bool
is_octal b = nat_le 48 b && nat_le b 55

-- four octal digits
unfoldable pub mode_of : List ℕ → Option ℕ
mode_of text =
    if (length text == 4) && list_all is_octal text
    then Some (512 * (slice_index text 0 - 48) + 64 * (slice_index text 1 - 48)
    + 8 * (slice_index text 2 - 48) + (slice_index text 3 - 48)) else None

unfoldable pub mode_field : ℕ → List ℕ → Result (ℕ × List ℕ) ℕ
mode_field n line = do
  f ← field_at n line
  v ← or_refused n (mode_of f.0)
  Ok (v, f.1)
