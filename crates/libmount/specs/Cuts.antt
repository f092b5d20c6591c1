-- What stands before a mark and after it, and where it begins.
use Rattle.std.specs.Prelude.{ℕ, ◌+◌, ◌-◌, List, [], ◌∷◌, length, take, drop, Bool, nat_eq, ◌==◌}
use Rattle.std.specs.Prelude.{if◌then◌else◌, codes}
use Rattle.std.specs.List.{starts_with, prefix_len, suffix_len}

-- bytes, and the place where they begin
abbrev pub Placed : Type 0
Placed = ℕ × List ℕ

-- the last bytes of a part: they end where it ends
abbrev pub last_of : Placed → List ℕ → Placed
last_of part rest = (part.0 + (length part.1 - length rest), rest)

abbrev pub is_space : ℕ → Bool
is_space byte = byte == 32

-- the marks at which fields end
abbrev pub space : List ℕ
space = codes " "

abbrev pub colon : List ℕ
colon = codes ":"

abbrev pub dash : List ℕ
dash = codes "- "

abbrev pub after_byte : ℕ → List ℕ × List ℕ → List ℕ × List ℕ
after_byte byte found = (byte ∷ found.0, found.1)

-- what stands before the first such mark, and what follows it: all, and nothing, where there is
-- none
unfoldable pub cut : List ℕ → List ℕ → List ℕ × List ℕ
cut mark [] = ([], [])
cut mark (byte ∷ bytes) =
    if starts_with nat_eq (byte ∷ bytes) mark then ([], drop (length mark) (byte ∷ bytes))
    else after_byte byte (cut mark bytes)

-- the same of bytes that begin at a place
abbrev pub cut_at : List ℕ → Placed → Placed × Placed
cut_at mark part = ((part.0, (cut mark part.1).0), last_of part (cut mark part.1).1)

abbrev pub without_leading_spaces : List ℕ → List ℕ
without_leading_spaces bytes = drop (prefix_len is_space bytes) bytes

abbrev pub without_trailing_spaces : List ℕ → List ℕ
without_trailing_spaces bytes = take (length bytes - suffix_len is_space bytes) bytes
