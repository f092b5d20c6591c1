-- The parts of a text between bytes of one kind, as lines or options are.
use Rattle.std.specs.Prelude.{◌≡◌, ℕ, ◌+◌, ◌<◌, List, [], ◌∷◌, ◌++◌, length, take, drop, Bool}
use Rattle.std.specs.Prelude.{◌==◌, Option, Some, None}
use Rattle.std.specs.List.{slice_split}

abbrev pub is_mark : ℕ → ℕ → Bool
is_mark mark byte = byte == mark

-- the parts between the marks; none where there is no text
abbrev pub parts : ℕ → Option (List ℕ) → List (List ℕ)
parts mark None = []
parts mark (Some text) = slice_split (is_mark mark) text

-- the last part begins after this place
abbrev pub EndsPart : ℕ → List ℕ → Option ℕ → Type 0
EndsPart mark text None = parts mark (Some text) ≡ text ∷ []
EndsPart mark text (Some at) =
    (at < length text)
    × (parts mark (Some text) ≡ parts mark (Some (take at text)) ++ drop (at + 1) text ∷ [])
