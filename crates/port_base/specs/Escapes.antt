-- The escapes of names and paths in texts, which are those of fstab(5).
use Rattle.std.specs.Prelude.{◌≡◌, ℕ, ◌+◌, ◌-◌, ◌*◌, ◌/◌, ◌%◌, List, [], ◌∷◌, ◌++◌, length, drop}
use Rattle.std.specs.Prelude.{◌==◌, ◌||◌, if◌then◌else◌, Bool, Option, Some, None, bytes_eq}
use Rattle.std.specs.Prelude.{option_map}
use Rattle.std.specs.List.{flat_map}

-- a space, a tab, a line feed, a carriage return or a backslash
abbrev pub is_escaped : ℕ → Bool
is_escaped b = (b == 32) || ((b == 9) || ((b == 10) || ((b == 13) || (b == 92))))

-- an octal digit of a number, at a place that is a power of 8
abbrev pub octal_digit : ℕ → ℕ → ℕ
octal_digit n place = 48 + (n / place) % 8

-- such a byte as a backslash and three octal digits, every other byte as it is
abbrev pub escaped_byte : ℕ → List ℕ
escaped_byte b = if is_escaped b then 92 ∷ octal_digit b 64 ∷ octal_digit b 8 ∷ octal_digit b 1
    ∷ [] else b ∷ []

unfoldable pub escaped : List ℕ → List ℕ
escaped bytes = flat_map escaped_byte bytes

-- the number that three octal digits stand for
abbrev pub octal_value : ℕ → ℕ → ℕ → ℕ
octal_value x y z = 64 * (x - 48) + 8 * (y - 48) + (z - 48)

-- a text with one more byte before it
abbrev pub behind : ℕ → Option (List ℕ) → Option (List ℕ)
behind b text = option_map (λ bs. b ∷ bs) text

-- the text whose escaped text is the field: a byte that isn't escaped stands for itself, four
-- bytes stand for the one whose escape they are; none where neither begins what is left
unfoldable pub unescaped : List ℕ → Option (List ℕ)
unescaped [] = Some []
unescaped (b ∷ x ∷ y ∷ z ∷ rest) =
    if is_escaped b then (if bytes_eq (escaped_byte (octal_value x y z)) (b ∷ x ∷ y ∷ z ∷ [])
    then behind (octal_value x y z) (unescaped rest) else None)
    else behind b (unescaped (x ∷ y ∷ z ∷ rest))
unescaped (b ∷ rest) = if is_escaped b then None else behind b (unescaped rest)

-- the text whose escaped text is the field; none where there is none
abbrev pub IsUnescaped : List ℕ → Option (List ℕ) → Type 0
IsUnescaped field (Some text) = escaped text ≡ field
IsUnescaped field None = (text : List ℕ) → escaped text ≡ field → ⊥

-- the byte that the field begins with, and its width there; none where it begins with none
abbrev pub BeginsWith : List ℕ → Option (ℕ × ℕ) → Type 0
BeginsWith field (Some (byte, width)) = (width ≡ length (escaped_byte byte))
    × (field ≡ escaped_byte byte ++ drop width field)
BeginsWith field None = (byte : ℕ) (rest : List ℕ) → escaped_byte byte ++ rest ≡ field → ⊥
