-- Bytes as printed text.
use Rattle.std.specs.Prelude.{ℕ, ◌/◌, ◌%◌, List, [], ◌∷◌, ◌++◌, nat_lt, if◌then◌else◌, codes}
use Rattle.std.specs.List.{flat_map}
use Rattle.port_base.specs.Quoting.{upper_hex_digit}

-- a byte as it is printed
abbrev pub shown_byte : ℕ → List ℕ
shown_byte byte = if nat_lt byte 128 then byte ∷ [] else codes "\\x" ++ upper_hex_digit (byte / 16)
    ∷ upper_hex_digit (byte % 16) ∷ []

-- bytes as they are printed
unfoldable pub shown : List ℕ → List ℕ
shown bytes = flat_map shown_byte bytes
