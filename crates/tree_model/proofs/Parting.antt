-- Entries without the one of a name.
use Rattle.std.proofs.Common.{◌≡◌, ◌≢◌, ℕ, zero, suc, ◌+◌, ◌<◌, ◌≤◌, Bool, true, false, cond, List}
use Rattle.std.proofs.Common.{[], ◌∷◌, length, refl, sym, ap, ◌∙◌, subst, Some, None, arith}
use Rattle.std.proofs.Common.{bytes_eq, get_or, nat_lt}
use Rattle.std.specs.Prelude.{All, AllPairs, Contains, ◌==◌, position}
use Rattle.std.specs.List.{remove, position_or_len}
use Rattle.std.proofs.lemmas.Bool.Decides.{nat_tests}
use Rattle.std.proofs.lemmas.List.Sums.{fails_before_first}
use Rattle.std.proofs.lemmas.Bool.{false≢true}
use Rattle.std.proofs.lemmas.List.Elements.{All-append, All-take, All-drop, All-contains}
use Rattle.std.proofs.lemmas.List.Elements.{All-contains_itself}
use Rattle.std.proofs.lemmas.List.Quantifiers.{all_pairs_remove, position-Some}
use Rattle.port_base.specs.Names.{name_fault}
use Rattle.tree_model.specs.Tree.{Body, DirEntry, listed, is_directory, count_names}
use Rattle.tree_model.specs.Tree.Body.{File, Directory, Link}
use Rattle.tree_model.specs.Good.{CookiesRise, IsGoodBody}
use Rattle.tree_model.specs.Finding.{entry_named}
use Rattle.tree_model.specs.Making.{with_entries, next_cookie}
use Rattle.tree_model.specs.Unlinking.{without}

-- the entry that goes stands at a place
pub goes_at : (name : List ℕ) (es : List DirEntry) (e : DirEntry) → entry_named name es ≡ Some e
    → (k : ℕ) × (k < length es) × (without name es ≡ remove es k)
goes_at name [] e is = absurd (cc)
goes_at name (f ∷ es) e is = by_test (bytes_eq f.name name) refl is
    (λ is. goes_at name es e is) where
      by_test : (b : Bool) → bytes_eq f.name name ≡ b
          → cond b (Some f) (entry_named name es) ≡ Some e
          → (entry_named name es ≡ Some e → (k : ℕ) × (k < length es)
          × (without name es ≡ remove es k))
          → (k : ℕ) × (k < length (f ∷ es)) × (without name (f ∷ es) ≡ remove (f ∷ es) k)
      by_test true named is then = (0, omega arith, ap (λ b. cond b es (f ∷ without name es)) named)
      by_test false named is then = let later = then is
          in (
            suc later.0,
            (let low = later.1 in omega arith),
            ap (λ b. cond b es (f ∷ without name es))
                named ∙ ap (λ es. f ∷ es) later.2,
          )

All-remove : {X : Type 0} (P : X → Type 0) (xs : List X) (k : ℕ) → All P xs → All P (remove xs k)
All-remove P xs k all = All-append P _ _ (All-take P k xs all) (All-drop P (suc k) xs all)

-- what is listed then was listed before
pub without-Contains : (name : List ℕ) (es : List DirEntry) (e y : DirEntry)
    → entry_named name es ≡ Some e → Contains (without name es) y → Contains es y
without-Contains name es e y is c =
    let at = goes_at name es e is in
    All-contains (Contains es) (without name es) y
    (subst (All (Contains es)) (sym at.2)
    (All-remove (Contains es) es at.0 (All-contains_itself es))) c

pub count_names-without : (q : ℕ) (name : List ℕ) (es : List DirEntry) (e : DirEntry)
    → entry_named name es ≡ Some e → count_names q (without name es) + cond {A = ℕ} (e.ino == q) 1 0
    ≡ count_names q es
count_names-without q name [] e is = absurd (cc)
count_names-without q name (f ∷ es) e is = by_test (bytes_eq f.name name) refl is
    (λ is. count_names-without q name es e is) where
      by_test : (b : Bool) → bytes_eq f.name name ≡ b
          → cond b (Some f) (entry_named name es) ≡ Some e
          → (entry_named name es ≡ Some e → count_names q (without name es) + cond {A = ℕ}
          (e.ino == q)
          1 0 ≡ count_names q es)
          → count_names q (without name (f ∷ es)) + cond {A = ℕ} (e.ino == q) 1 0 ≡ count_names q
          (f ∷ es)
      by_test true named is then =
          let same : f ≡ e = cc in
          let left = ap (λ b. count_names q (cond b es (f ∷ without name es))) named in
          let one = ap (λ (e : DirEntry). cond {A = ℕ} (e.ino == q) 1 0) same in
          omega arith
      by_test false named is then =
          let left = ap (λ b. count_names q (cond b es (f ∷ without name es))) named in
          let later = then is in
          omega arith

CookiesRise-from : (low from : ℕ) (es : List DirEntry) (end : ℕ) → low ≤ from
    → CookiesRise from es end → CookiesRise low es end
CookiesRise-from low from [] end le rise = omega arith
CookiesRise-from low from (e ∷ es) end le rise = ((let first = rise.0 in omega arith), rise.1)

pub CookiesRise-without : (name : List ℕ) (from : ℕ) (es : List DirEntry) (end : ℕ)
    → CookiesRise from es end → CookiesRise from (without name es) end
CookiesRise-without name from [] end rise = rise
CookiesRise-without name from (e ∷ es) end rise =
    by_test (bytes_eq e.name name) (CookiesRise-without name (e.cookie + 1) es end rise.1) where
      by_test : (b : Bool) → CookiesRise (e.cookie + 1) (without name es) end
          → CookiesRise from (cond b es (e ∷ without name es)) end
      by_test true later = CookiesRise-from from (e.cookie + 1) es end
          (let first = rise.0 in omega arith) rise.1
      by_test false later = (rise.0, later)

pub good_parted : (b : Body) (name : List ℕ) (e : DirEntry) → is_directory b ≡ true → IsGoodBody b
    → entry_named name (listed b) ≡ Some e → IsGoodBody
    (with_entries b (without name (listed b)) (next_cookie b))
good_parted (File bytes) name e is good named = absurd (false≢true is)
good_parted (Link target) name e is good named = absurd (false≢true is)
good_parted (Directory es next above) name e is good named =
    let at = goes_at name es e named in (
      CookiesRise-without name 1 es next good.0,
      subst (All (λ e. name_fault e.name ≡ None)) (sym at.2)
          (All-remove (λ e. name_fault e.name ≡ None) es at.0 good.1),
      subst (AllPairs (λ e f. e.name ≢ f.name)) (sym at.2)
          (all_pairs_remove (λ e f. e.name ≢ f.name) es at.0 at.1 good.2),
      good.3,
    )

-- ---- by the place of the name

abbrev pub is_called : List ℕ → DirEntry → Bool
is_called name e = bytes_eq e.name name

abbrev no_entry : DirEntry
no_entry = record { cookie = 0; name = []; ino = 0 }

at_place : (name : List ℕ) (es : List DirEntry) (i : ℕ) → i < length es
    → is_called name (get_or es i no_entry) ≡ true
    → ((k : ℕ) → k < i → is_called name (get_or es k no_entry) ≡ false)
    → remove es i ≡ without name es
at_place name [] i low is before = absurd (omega arith)
at_place name (f ∷ es) zero low is before = ap (λ b. cond b es (f ∷ without name es)) (sym is)
at_place name (f ∷ es) (suc i) low is before =
    ap (λ es. f ∷ es) (at_place name es i (omega arith) is
    (λ k below. before (suc k) (omega arith)))
    ∙ ap (λ b. cond b es (f ∷ without name es)) (sym (before 0 (omega arith)))

nowhere : (name : List ℕ) (es : List DirEntry)
    → ((k : ℕ) → k < length es → is_called name (get_or es k no_entry) ≡ false)
    → es ≡ without name es
nowhere name [] none = refl
nowhere name (f ∷ es) none =
    ap (λ es. f ∷ es) (nowhere name es (λ k below. none (suc k) (omega arith)))
    ∙ ap (λ b. cond b es (f ∷ without name es)) (sym (none 0 (omega arith)))

pub without_place : (name : List ℕ) (es : List DirEntry) (i : ℕ)
    → position (is_called name) es ≡ Some i → remove es i ≡ without name es
without_place name es i is = let at = position-Some (is_called name) es i no_entry is in at_place
    name es i at.0 at.1 at.2

pub without_none : (name : List ℕ) (es : List DirEntry) → position (is_called name) es ≡ None
    → es ≡ without name es
without_none name es is = by_test (nat_lt (position_or_len (is_called name) es) (length es))
    refl is where
      by_test : (b : Bool) → nat_lt (position_or_len (is_called name) es) (length es) ≡ b
          → cond b (Some (position_or_len (is_called name) es)) None ≡ None → es ≡ without name es
      by_test true low is = absurd (cc)
      by_test false high is = nowhere name es (λ k below. fails_before_first (is_called name) es k
          no_entry (let far : length es ≤ position_or_len (is_called name) es =
          grind (arith, nat_tests) in omega arith))
