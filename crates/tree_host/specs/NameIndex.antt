-- The cookies of a directory's names, beside its entries.
use Rattle.std.specs.Prelude.{◌≡◌, ◌≢◌, ℕ, List, Option, Some, option_map, bytes_eq, AllPairs}
use Rattle.std.specs.BTreeMap.{BTreeMap, get_by}
use Rattle.std.specs.Cmp.Lexicographic.{slice_cmp}
use Rattle.std.specs.Map.{update}
use Rattle.std.specs.Ordering.{nat_cmp}
use Rattle.std.specs.declared.vec.Vec.{Vec}
use Rattle.tree_model.specs.Tree.{DirEntry}
use Rattle.tree_model.specs.Finding.{entry_named}

module _ {Z : Type 0} where
  -- the cookie of a name
  abbrev pub cookie_at : BTreeMap (Vec ℕ Z) ℕ → List ℕ → Option ℕ
  cookie_at index name = get_by (λ key. slice_cmp nat_cmp name key.items) index

  -- a name has another cookie, and every other name keeps its own
  abbrev pub IsUpdated : List ℕ → Option ℕ → BTreeMap (Vec ℕ Z) ℕ → BTreeMap (Vec ℕ Z) ℕ → Type 0
  IsUpdated name cookie old new =
      (other : List ℕ) → cookie_at new other ≡ update bytes_eq (cookie_at old) name cookie other

  abbrev pub Records : List ℕ → ℕ → BTreeMap (Vec ℕ Z) ℕ → BTreeMap (Vec ℕ Z) ℕ → Type 0
  Records name cookie = IsUpdated name (Some cookie)

  -- a name has a cookie exactly where an entry has the name, and it is that entry's; no two entries
  -- have one name
  abbrev pub IsIndexOf : BTreeMap (Vec ℕ Z) ℕ → List DirEntry → Type 0
  IsIndexOf index es =
      ((name : List ℕ) → cookie_at index name ≡ option_map (λ e. e.cookie) (entry_named name es))
      × AllPairs (λ e f. e.name ≢ f.name) es
