-- What a cut is: a relation on the text and its two parts.
use Rattle.std.specs.Prelude.{◌≡◌, ℕ, ◌<◌, List, [], ◌++◌, length, drop, false, nat_eq, ◌⊎◌}
use Rattle.std.specs.List.{starts_with}

-- the mark stands at none of the first places of the text
abbrev pub StandsNotBefore : List ℕ → List ℕ → ℕ → Type 0
StandsNotBefore mark bytes end = (at : ℕ) → at < end → starts_with nat_eq (drop at bytes) mark
    ≡ false

-- the text is a front, the mark and a rest, where the mark doesn't stand before
pub record EndsAtMark (mark bytes front rest : List ℕ) : Type 0 where
  pub whole : bytes ≡ front ++ (mark ++ rest)
  pub first : StandsNotBefore mark bytes (length front)

-- the mark stands nowhere in the text, and the front is all of it
pub record HasNoMark (mark bytes front rest : List ℕ) : Type 0 where
  pub all : front ≡ bytes
  pub none : rest ≡ []
  pub nowhere : StandsNotBefore mark bytes (length bytes)

abbrev pub IsCut : List ℕ → List ℕ → List ℕ × List ℕ → Type 0
IsCut mark bytes found = EndsAtMark mark bytes found.0 found.1 ⊎ HasNoMark mark bytes found.0
    found.1
