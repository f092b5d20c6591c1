-- Numbers as text.
use Rattle.std.specs.Prelude.{◌≡◌, ℕ, ◌+◌, ◌-◌, ◌*◌, ◌^◌, ◌<◌, ◌≤◌, IsTrue, false, List, length}
use Rattle.std.specs.Prelude.{drop, Result, Ok, Err, Bool, ◌==◌, ◌&&◌, ◌||◌, nat_le, nat_lt}
use Rattle.std.specs.Prelude.{if◌then◌else◌, slice_index}
use Rattle.std.specs.List.{fold, take_while}
use Rattle.libmount.specs.declared.mountinfo.numbers.NumberFault.{NumberFault}
use Rattle.libmount.specs.declared.mountinfo.numbers.NumberFault.TheVariants.{Empty, InvalidDigit}
use Rattle.libmount.specs.declared.mountinfo.numbers.NumberFault.TheVariants.{TooLarge}
use Rattle.libmount.specs.Cuts.{Placed, space}
use Rattle.libmount.specs.Reading.{Message, ◌>>=◌, bad_number, field_at}

abbrev pub is_digit : ℕ → Bool
is_digit byte = nat_le 48 byte && nat_le byte 57

-- the number that a digit goes on to
abbrev pub with_digit : ℕ → ℕ → ℕ
with_digit number digit = 10 * number + (digit - 48)

-- the decimal number of these digits
abbrev pub decimal_value : List ℕ → ℕ
decimal_value digits = fold with_digit 0 digits

-- a text without the plus that it may begin with
abbrev pub unsigned : List ℕ → List ℕ
unsigned text = if slice_index text 0 == 43 then drop 1 text else text

-- The number of digits, or the first fault from the left: the digits at the front reach 2 ^ 64, or
-- else a digit is missing.
unfoldable pub digits_value : List ℕ → Result ℕ NumberFault
digits_value text =
    if nat_le (2 ^ 64) (decimal_value (take_while is_digit text)) then Err TooLarge else
    if (length text == 0) || nat_lt (length (take_while is_digit text)) (length text)
    then Err InvalidDigit else
    Ok (decimal_value (take_while is_digit text))

-- a number: digits, and a plus may stand before them
unfoldable pub number_of : List ℕ → Result ℕ NumberFault
number_of text = if length text == 0 then Err Empty else digits_value (unsigned text)

abbrev pub or_bad_number : List ℕ → Result ℕ NumberFault → Result ℕ Message
or_bad_number text (Ok number) = Ok number
or_bad_number text (Err fault) = Err (bad_number text fault)

-- a number up to a space, and what follows it
unfoldable pub number_at : Placed → Result (ℕ × Placed) Message
number_at part = do
  text ← field_at space part
  number ← or_bad_number text.0.1 (number_of text.0.1)
  Ok (number, text.1)

-- a number in a field that another mark ends
unfoldable pub number_field : List ℕ → Placed → Result (ℕ × Placed) Message
number_field mark part = do
  field ← field_at mark part
  number ← number_at field.0
  Ok (number.0, field.1)

-- a digit goes on to a number below 2 ^ 64, or is the first fault
abbrev pub Goes : ℕ → ℕ → Result ℕ NumberFault → Type 0
Goes number digit (Ok more) = IsTrue (is_digit digit) × (more ≡ with_digit number digit)
    × (more < 2 ^ 64)
Goes number digit (Err TooLarge) = IsTrue (is_digit digit) × (2 ^ 64 ≤ with_digit number digit)
Goes number digit (Err InvalidDigit) = is_digit digit ≡ false
Goes number digit (Err Empty) = ⊥
