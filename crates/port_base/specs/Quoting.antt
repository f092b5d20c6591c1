-- Bytes between double quotes.
use Rattle.std.specs.Prelude.{ℕ, ◌+◌, ◌-◌, ◌/◌, ◌%◌, List, [], ◌∷◌, ◌++◌, nat_lt, ◌==◌, ◌||◌}
use Rattle.std.specs.Prelude.{if◌then◌else◌, codes}
use Rattle.std.specs.List.{flat_map}

-- a digit of a number in base 16, with lower-case letters
abbrev pub hex_digit : ℕ → ℕ
hex_digit digit = if nat_lt digit 10 then 48 + digit else 97 + (digit - 10)

-- the same with capital letters
abbrev pub upper_hex_digit : ℕ → ℕ
upper_hex_digit digit = if nat_lt digit 10 then 48 + digit else 65 + (digit - 10)

-- a byte's number in base 16, without a leading zero
abbrev pub hex_number : ℕ → List ℕ
hex_number byte = if nat_lt byte 16 then hex_digit byte ∷ [] else hex_digit (byte / 16)
    ∷ hex_digit (byte % 16) ∷ []

-- a byte as it stands between the quotes
unfoldable pub quoted_byte : ℕ → List ℕ
quoted_byte byte =
    if byte == 34 then codes "\\\"" else
    if byte == 92 then codes "\\\\" else
    if byte == 9 then codes "\\t" else
    if byte == 10 then codes "\\n" else
    if byte == 13 then codes "\\r" else
    if byte == 0 then codes "\\0" else
    if nat_lt byte 32 || (byte == 127) then codes "\\u{" ++ hex_number byte ++ codes "}" else
    if nat_lt byte 128 then byte ∷ [] else
    codes "\\x" ++ upper_hex_digit (byte / 16) ∷ upper_hex_digit (byte % 16) ∷ []

-- the bytes between double quotes
unfoldable pub quoted : List ℕ → List ℕ
quoted path = codes "\"" ++ flat_map quoted_byte path ++ codes "\""
