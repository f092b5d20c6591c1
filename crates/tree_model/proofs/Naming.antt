-- What a look-up finds is named, and what is named is stored.
use Rattle.std.proofs.Common.{◌≡◌, ℕ, zero, suc, ◌+◌, ◌<◌, ◌≤◌, Bool, true, false, cond, List, []}
use Rattle.std.proofs.Common.{◌∷◌, length, refl, ap, subst, Option, Some, None, Ok, arith, IsSome}
use Rattle.std.proofs.Common.{bytes_eq, eq-eqb}
use Rattle.std.specs.Prelude.{◌==◌, is_some, find as first_where, Contains, slice_index_or}
use Rattle.std.proofs.lemmas.Bool.Decides.{nat_tests}
use Rattle.std.proofs.lemmas.List.Elements.{Contains-append_right}
use Rattle.std.specs.FinMap.{get}
use Rattle.tree_model.specs.Tree.{Tree, Record, Records, Body, DirEntry, listed, name_count}
use Rattle.tree_model.specs.Tree.{names_in, count_names, weight, TOP}
use Rattle.tree_model.specs.Tree.Body.{File, Directory, Link}
use Rattle.tree_model.specs.Good.{IsAt, IsGoodTree}
use Rattle.tree_model.specs.Finding.{entry_named, entry_folded, entries_of, entries_at, found_among}
use Rattle.tree_model.specs.Finding.{ino_among, ino_or_missing, find, same_folded}
use Rattle.tree_model.proofs.Counting.{weigh-remove, weighs_somewhere}

-- an entry that is found is counted
found_counts : (p : DirEntry → Bool) (es : List DirEntry) (e : DirEntry) → first_where p es ≡ Some e
    → 0 < count_names e.ino es
found_counts p [] e at = absurd (cc)
found_counts p (f ∷ es) e at =
    (λ (b : Bool) (is : p f ≡ b). (elim b as (λ b. p f ≡ b → 0 < count_names e.ino (f ∷ es)) [
      | true ↦ λ is. let same : Some f ≡ Some e = rw is at at in let one : f.ino ≡ e.ino =
          ap (λ (o : DirEntry). o.ino) (let s : f ≡ e = cc in s) in let t : (f.ino == e.ino)
          ≡ true = eq-eqb f.ino e.ino one in rw t (omega arith)
      | false ↦ λ is. let rest : first_where p es ≡ Some e = rw is at at in let more =
          found_counts p es e rest in omega arith
    ]) is) (p f) refl

-- without regard to case or with it, what is found is counted
found_among_counts : (casefold : Bool) (name : List ℕ) (es : List DirEntry) (e : DirEntry)
    → found_among casefold name es ≡ Some e → 0 < count_names e.ino es
found_among_counts casefold name es e at = by_exact (is_some (entry_named name es)) casefold
    refl at where
      by_exact : (b c : Bool) → is_some (entry_named name es) ≡ b
          → cond b (entry_named name es) (cond c (entry_folded name es) None) ≡ Some e
          → 0 < count_names e.ino es
      by_exact true c is at = found_counts (λ e. bytes_eq e.name name) es e at
      by_exact false true is at = found_counts (λ e. same_folded e.name name) es e at
      by_exact false false is at = absurd (cc)

-- by exact name
pub found_among-exact : (name : List ℕ) (es : List DirEntry)
    → found_among false name es ≡ entry_named name es
found_among-exact name es = by_entry (entry_named name es) where
  by_entry : (o : Option DirEntry) → cond (is_some o) o None ≡ o
  by_entry None = refl
  by_entry (Some e) = refl

-- the entries of one record are among all
pub names_in-le : (rs : Records) (i q : ℕ) (r : Record) → IsAt rs i r
    → names_in q r ≤ name_count rs q
names_in-le rs i q r at = let step = weigh-remove (names_in q) rs i r at in omega arith

in_body : (rs : Records) (dir : ℕ) (r : Record) (b : Body) (casefold : Bool) (name : List ℕ)
    (ino : ℕ) → IsAt rs dir r → r.body ≡ b → ino_among casefold name (entries_of b) ≡ Ok ino
    → 0 < name_count rs ino
in_body rs dir r (File bytes) casefold name ino at is e = absurd (cc)
in_body rs dir r (Link target) casefold name ino at is e = absurd (cc)
in_body rs dir r (Directory es n a) casefold name ino at is e =
    by_entry (found_among casefold name es) refl e where
      by_entry : (o : Option DirEntry) → found_among casefold name es ≡ o
          → ino_or_missing o ≡ Ok ino
          → 0 < name_count rs ino
      by_entry None is e = absurd (cc)
      by_entry (Some f) found e =
          let same : f.ino ≡ ino = cc in
          let here : names_in ino r ≡ count_names ino es =
          ap (λ b. count_names ino (listed b)) is in
          let many = subst (λ k. 0 < count_names k es) same
          (found_among_counts casefold name es f found) in
          let le = names_in-le rs dir ino r at in
          omega arith

pub found_is_named : (casefold : Bool) (t : Tree) (dir : ℕ) (name : List ℕ) (ino : ℕ)
    → find casefold t dir name ≡ Ok ino → 0 < name_count t.records ino
found_is_named casefold t dir name ino = by_record (get t.records dir) refl where
  by_record : (o : Option Record) → get t.records dir ≡ o
      → ino_among casefold name (entries_at t.records dir) ≡ Ok ino → 0 < name_count t.records ino
  by_record None at e = absurd (let f : ino_among casefold name None ≡ Ok ino = rw at at e in cc)
  by_record (Some r) at e = in_body t.records dir r r.body casefold name ino at refl (rw at at e)

-- where entries name i, one of them does
pub entry_that_names : (i : ℕ) (es : List DirEntry) → 0 < count_names i es → (e : DirEntry)
    × Contains es e × (e.ino ≡ i)
entry_that_names i [] many = absurd (omega arith)
entry_that_names i (e ∷ es) many = by_first (λ more. entry_that_names i es more) (e.ino == i) refl
    many where
      by_first : (0 < count_names i es → (f : DirEntry) × Contains es f × (f.ino ≡ i)) → (b : Bool)
          → (e.ino == i) ≡ b → 0 < cond {A = ℕ} b 1 0 + count_names i es → (f : DirEntry)
          × Contains (e ∷ es) f × (f.ino ≡ i)
      by_first later true is more = (e, (0, omega arith, refl), grind (arith, nat_tests))
      by_first later false is more =
          let rest = later (omega arith) in
          (rest.0, Contains-append_right (e ∷ []) es rest.0 rest.1, rest.2)

-- an entry is counted where it stands
pub contained_counts : (es : List DirEntry) (e : DirEntry) (k : ℕ) → k < length es
    → slice_index_or es k e ≡ e → 0 < count_names e.ino es
contained_counts [] e k low is = absurd (omega arith)
contained_counts (f ∷ es) e zero low is = let one : (f.ino == e.ino) ≡ true =
    eq-eqb f.ino e.ino (ap (λ (e : DirEntry). e.ino) is) in rw one (omega arith)
contained_counts (f ∷ es) e (suc k) low is = let more =
    contained_counts es e k (omega arith) is in omega arith

pub entry_is_counted : (rs : Records) (q : ℕ) (r : Record) (e : DirEntry) → IsAt rs q r
    → Contains (listed r.body) e → 0 < name_count rs e.ino
entry_is_counted rs q r e at c = let here = contained_counts (listed r.body) e c.0 c.1 c.2
    in let le = names_in-le rs q e.ino r at in omega arith

-- a record with an entry that names i
pub names_somewhere : (rs : Records) (i : ℕ) → 0 < name_count rs i → (q : ℕ) × (r : Record)
    × (e : DirEntry) × IsAt rs q r × Contains (listed r.body) e × (e.ino ≡ i)
names_somewhere rs i many =
    let place = weighs_somewhere (names_in i) rs many in
    by_record place.0 (get rs place.0) refl (place.1) where
      by_record : (q : ℕ) (o : Option Record) → get rs q ≡ o → 0 < weight (names_in i) (get rs q)
          → (q : ℕ) × (r : Record) × (e : DirEntry) × IsAt rs q r × Contains (listed r.body) e
          × (e.ino ≡ i)
      by_record q None at some = absurd (let zero : weight (names_in i) (get rs q) ≡ 0 =
          ap (weight (names_in i)) at in omega arith)
      by_record q (Some r) at some =
          let here = entry_that_names i (listed r.body)
          (subst (λ n. 0 < n) (ap (weight (names_in i)) at) some) in
          (q, r, here.0, at, here.1, here.2)

-- in a good tree what is named is stored, and the top is not named
pub named_is_stored : (t : Tree) → IsGoodTree t → (i : ℕ) → 0 < name_count t.records i
    → IsSome (get t.records i)
named_is_stored t g i many =
    let w = names_somewhere t.records i many in
    subst (λ i. IsSome (get t.records i)) w.5 (g.entries w.0 w.1 w.2 w.3 w.4).0

pub top_is_unnamed : (t : Tree) → IsGoodTree t → name_count t.records TOP ≡ 0
top_is_unnamed t g = by_count (name_count t.records TOP) refl where
  by_count : (n : ℕ) → name_count t.records TOP ≡ n → name_count t.records TOP ≡ 0
  by_count zero is = is
  by_count (suc n) is =
      let w = names_somewhere t.records TOP (omega arith) in
      absurd ((g.entries w.0 w.1 w.2 w.3 w.4).1 w.5)
