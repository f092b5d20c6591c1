-- Texts in which a backslash and three octal digits are one byte.
use Rattle.std.specs.Prelude.{◌≡◌, ℕ, ◌+◌, ◌-◌, ◌*◌, ◌%◌, ◌<◌, List, ◌∷◌, length, slice_index}
use Rattle.std.specs.Prelude.{Bool, false, ◌==◌, ◌&&◌, ◌||◌, nat_le, if◌then◌else◌}

abbrev pub is_octal : ℕ → Bool
is_octal byte = nat_le 48 byte && nat_le byte 55

-- a backslash and three octal digits
abbrev pub is_escape : ℕ → ℕ → ℕ → ℕ → Bool
is_escape a b c d = (a == 92) && (is_octal b && (is_octal c && is_octal d))

-- the byte that three octal digits stand for
abbrev pub octal_value : ℕ → ℕ → ℕ → ℕ
octal_value b c d = (64 * (b - 48) + 8 * (c - 48) + (d - 48)) % 256

-- an escape stands in the text
unfoldable pub has_escape : List ℕ → Bool
has_escape (a ∷ b ∷ c ∷ d ∷ rest) = is_escape a b c d || has_escape (b ∷ c ∷ d ∷ rest)
has_escape _ = false

-- the text that is meant
unfoldable pub decoded : List ℕ → List ℕ
decoded (a ∷ b ∷ c ∷ d ∷ rest) = if is_escape a b c d then octal_value b c d ∷ decoded rest else a
    ∷ decoded (b ∷ c ∷ d ∷ rest)
decoded text = text

-- a backslash and three octal digits stand at the front
abbrev pub starts_with_escape : List ℕ → Bool
starts_with_escape text = is_escape (slice_index text 0) (slice_index text 1) (slice_index text 2)
    (slice_index text 3)

-- the first byte that is meant, and what follows it
abbrev pub TakesByte : List ℕ → ℕ → List ℕ → Type 0
TakesByte text byte rest = (decoded text ≡ byte ∷ decoded rest) × (length rest < length text)
