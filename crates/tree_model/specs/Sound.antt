-- What is stored: what is linked or held, and nothing else.
use Rattle.std.specs.Prelude.{◌≡◌, ◌≢◌, ◌||◌, ◌&&◌, not, ℕ, ◌<◌, Bool, true, false, [], ◌==◌}
use Rattle.std.specs.Prelude.{if◌then◌else◌, Option, Some, None, IsSome, IsTrue}
use Rattle.std.specs.FinMap as map
use Rattle.tree_model.specs.Tree.{Record, Records, listed, is_directory, name_count, is_linked, TOP}
use Rattle.tree_model.specs.Good.{IsAt, links_of}

-- each stored record is linked or held
abbrev pub IsKept : Records → (ℕ → Bool) → Type 0
IsKept rs held = (i : ℕ) → IsSome (map.get rs i) → (is_linked rs i || held i) ≡ true

-- what is held is stored
abbrev pub AreStored : Records → (ℕ → Bool) → Type 0
AreStored rs held = (i : ℕ) → held i ≡ true → IsSome (map.get rs i)

-- links are counted, and what is named or held is stored
pub record IsCounted (rs : Records) (next : ℕ) (held : ℕ → Bool) : Type 0 where
  pub top_is_directory : (r : Record) → IsAt rs TOP r → IsTrue (is_directory r.body)
  pub numbers : (i : ℕ) (r : Record) → IsAt rs i r → i < next
  pub links : (i : ℕ) (r : Record) → IsAt rs i r
      → r.links ≡ links_of r.body (name_count rs i) (is_linked rs i)
  pub emptied : (i : ℕ) (r : Record) → IsAt rs i r → is_linked rs i ≡ false → listed r.body ≡ []
  pub named : (i : ℕ) → 0 < name_count rs i → IsSome (map.get rs i)
  pub holds : AreStored rs held

-- each stored record but one is linked or held
abbrev pub IsKeptBut : Records → (ℕ → Bool) → ℕ → Type 0
IsKeptBut rs held i = (q : ℕ) → q ≢ i → IsSome (map.get rs q) → (is_linked rs q || held q) ≡ true

abbrev pub has_no_links : Option Record → Bool
has_no_links None = false
has_no_links (Some r) = r.links == 0

-- the records without one that has no links and no hold
abbrev pub swept : (ℕ → Bool) → Records → ℕ → Records
swept held rs i = if has_no_links (map.get rs i) && not (held i) then map.remove rs i else rs
