-- Numbers as decimal text.
use Rattle.std.specs.Prelude.{◌≡◌, ℕ, ◌<◌, ◌^◌, List, length, Option, Some, None}
use Rattle.std.specs.Prelude.{◌==◌, ◌&&◌, ◌||◌, not, nat_lt, slice_index, if◌then◌else◌, Bool}
use Rattle.std.specs.List.{list_all}
use Rattle.std.specs.Char.{is_ascii_digit}
use Rattle.std.specs.Str.Parse.{digits_value}

-- digits, the first of them 0 only alone
abbrev pub is_number : List ℕ → Bool
is_number text =
    nat_lt 0 (length text)
    && (list_all is_ascii_digit text && ((length text == 1) || not (slice_index text 0 == 48)))

-- the number that is written so
unfoldable pub number_of : List ℕ → Option ℕ
number_of text = if is_number text then Some (digits_value 10 text) else None

-- the number, where there is one below 2^64
abbrev pub CountsTo : Option ℕ → Option ℕ → Type 0
CountsTo (Some n) read = read ≡ Some n
CountsTo None read = (n : ℕ) → n < 2 ^ 64 → read ≡ Some n → ⊥
