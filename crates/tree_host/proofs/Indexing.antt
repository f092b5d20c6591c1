-- The cookies of names beside the entries of a directory.
use Rattle.std.proofs.Common.{◌≡◌, ◌≢◌, ℕ, zero, suc, ◌+◌, ◌<◌, ◌≤◌, Bool, true, false, cond, List}
use Rattle.std.proofs.Common.{[], ◌∷◌, ◌++◌, length, refl, sym, ap, ◌∙◌, subst, Option, Some, None}
use Rattle.std.proofs.Common.{arith, bytes_eq, get_or, nat_lt, ⊎_elim, is_some}
use Rattle.std.specs.Prelude.{not, option_map, option_and_then, slice_get, All, AllPairs, IfSome}
use Rattle.std.specs.List.{remove, position_or_len}
use Rattle.std.specs.List.Sorted.{IsPartitionPoint}
use Rattle.std.specs.BTreeMap.{BTreeMap, UpdatesBy}
use Rattle.std.specs.Cmp.{eq_by_cmp_equiv}
use Rattle.std.specs.Cmp.Lexicographic.{slice_cmp, nat_list_cmp_total}
use Rattle.std.specs.Map.{lookup, IsKeyTest, AreApart, KeepsOthers}
use Rattle.std.specs.Ordering.{nat_cmp, is_eq}
use Rattle.std.specs.declared.vec.Vec.{Vec}
use Rattle.std.proofs.lemmas.Bool.{cases_Bool, false≢true, cond-true, cond-false}
use Rattle.std.proofs.lemmas.Bool.Decides.{nat_tests}
use Rattle.std.proofs.lemmas.List.Sums.{position_or_len_is}
use Rattle.std.proofs.lemmas.List.Folds.{find_at}
use Rattle.std.proofs.lemmas.List.Quantifiers.{all_pairs_push, all_pairs_remove}
use Rattle.std.proofs.lemmas.Map.Text.{is_eq-slice_cmp}
use Rattle.std.proofs.lemmas.Slice.Eq.{bytes_eq-Decides}
use Rattle.tree_model.specs.Tree.{DirEntry}
use Rattle.tree_model.specs.Good.{CookiesRise}
use Rattle.tree_model.specs.Finding.{entry_named}
use Rattle.tree_model.specs.Unlinking.{without}
use Rattle.tree_model.proofs.Parting.{goes_at, is_called, without_place, without_none}
use Rattle.tree_host.specs.NamePlaces.{place_among, without_at, AreInOrder}
use Rattle.tree_host.specs.NameIndex.{cookie_at, IsUpdated, IsIndexOf}
use Rattle.tree_host.proofs.Rising.{rises, past}

-- ---- names

same_name : (a b : List ℕ) → a ≡ b → bytes_eq a b ≡ true
same_name a b is = (bytes_eq-Decides a b).1 is

is_name : (a b : List ℕ) → bytes_eq a b ≡ true → a ≡ b
is_name a b same = (bytes_eq-Decides a b).0 same

other_name : (a b : List ℕ) → a ≢ b → bytes_eq a b ≡ false
other_name a b ne = ⊎_elim (λ same. absurd (ne (is_name a b same))) (λ other. other)
    (cases_Bool (bytes_eq a b))

-- ---- what a change of the map does to each name

apart_keys : (a b k : List ℕ) → bytes_eq a b ≡ false → is_eq (slice_cmp nat_cmp a k) ≡ true
    → is_eq (slice_cmp nat_cmp b k) ≡ false
apart_keys a b k other same = is_eq-slice_cmp b k
    ∙ other_name b k (λ is. false≢true (sym other ∙ same_name a b
    (is_name a k (sym (is_eq-slice_cmp a k) ∙ same) ∙ sym is)))

module _ {Z : Type 0} where
  kept_by_others : (eq : Vec ℕ Z → Vec ℕ Z → Bool) (test : Vec ℕ Z → Bool)
      (old new : List (Vec ℕ Z × ℕ)) → KeepsOthers eq test old new → (other : Vec ℕ Z → Bool)
      → IsKeyTest eq other → AreApart test other → lookup other new ≡ lookup other old
  unfolding KeepsOthers
  kept_by_others eq test old new kept = kept

  pub updated : (name : List ℕ) (old new : BTreeMap (Vec ℕ Z) ℕ) (w : Option ℕ)
      → UpdatesBy (λ x y. slice_cmp nat_cmp x.items y.items)
      (λ k. slice_cmp nat_cmp name k.items) old new w → IsUpdated name w old new
  updated name old new w h other = ⊎_elim
      (λ same. subst (λ q. cookie_at new q ≡ w) (is_name name other same) h.1
      ∙ sym (cond-true (bytes_eq name other) w (cookie_at old other) same))
      (λ ne. kept_by_others _ _ old.entries new.entries h.3 _
      (λ x y. (eq_by_cmp_equiv nat_list_cmp_total).congr other x.items y.items)
      (λ k. apart_keys name other k.items ne)
      ∙ sym (cond-false (bytes_eq name other) w (cookie_at old other) ne))
      (cases_Bool (bytes_eq name other))

-- ---- the entry of a name in a list that changes

abbrev AreApartNames : List DirEntry → Type 0
AreApartNames es = AllPairs (λ (e f : DirEntry). e.name ≢ f.name) es

none_named : (name : List ℕ) (es : List DirEntry) → All (λ (e : DirEntry). name ≢ e.name) es
    → entry_named name es ≡ None
none_named name [] all = refl
none_named name (f ∷ es) all =
    ap (λ b. cond b (Some f) (entry_named name es))
    (other_name f.name name (λ is. all 0 f (omega arith) (sym is)))
    ∙ none_named name es (λ k d low. all (suc k) d (omega arith))

unnamed_all : (name : List ℕ) (es : List DirEntry) → entry_named name es ≡ None → (k : ℕ)
    (d : DirEntry) → k < length es → (get_or es k d).name ≢ name
unnamed_all name [] none k d low is = absurd (omega arith)
unnamed_all name (f ∷ es) none k d low is = by_test (bytes_eq f.name name) refl none k low is
    (λ none k low is. unnamed_all name es none k d low is) where
      by_test : (b : Bool) → bytes_eq f.name name ≡ b → cond b (Some f) (entry_named name es) ≡ None
          → (k : ℕ) → k < length (f ∷ es) → (get_or (f ∷ es) k d).name ≡ name
          → (entry_named name es ≡ None → (k : ℕ) → k < length es → (get_or es k d).name ≡ name
          → ⊥) → ⊥
      by_test true found none k low is later = cc
      by_test false found none zero low is later = false≢true (sym found ∙ same_name f.name name is)
      by_test false found none (suc k) low is later = later none k (omega arith) is

pub without_free : (name : List ℕ) (es : List DirEntry) → entry_named name es ≡ None
    → without name es ≡ es
without_free name [] none = refl
without_free name (f ∷ es) none = by_test (bytes_eq f.name name) none
    (λ none. without_free name es none) where
      by_test : (b : Bool) → cond b (Some f) (entry_named name es) ≡ None
          → (entry_named name es ≡ None → without name es ≡ es)
          → cond b es (f ∷ without name es) ≡ f ∷ es
      by_test true none later = absurd (cc)
      by_test false none later = ap (λ es. f ∷ es) (later none)

nothing : {A : Type 0} (b : Bool) → cond {A = Option A} b None None ≡ None
nothing true = refl
nothing false = refl

named_without : (name q : List ℕ) (es : List DirEntry) → AreApartNames es
    → entry_named q (without name es) ≡ cond (bytes_eq name q) None (entry_named q es)
named_without name q [] apart = sym (nothing (bytes_eq name q))
named_without name q (f ∷ es) apart = by_test (named_without name q es
    (λ i j d lt low. apart (suc i) (suc j) d (omega arith) (omega arith)))
    (bytes_eq f.name name) refl where
      alone : entry_named f.name es ≡ None
      alone = none_named f.name es (λ k d low. apart 0 (suc k) d (omega arith) (omega arith))

      first_goes : f.name ≡ name → (b : Bool) → bytes_eq name q ≡ b
          → entry_named q es ≡ cond b None (cond (bytes_eq f.name q) (Some f) (entry_named q es))
      first_goes is true same = ap (λ q. entry_named q es) (sym (is ∙ is_name name q same)) ∙ alone
      first_goes is false other = sym (ap (λ b. cond b (Some f) (entry_named q es))
          (ap (λ n. bytes_eq n q) is ∙ other))

      first_stays : entry_named q (without name es) ≡ cond (bytes_eq name q) None (entry_named q es)
          → bytes_eq f.name name ≡ false → (b : Bool) → bytes_eq f.name q ≡ b
          → cond b (Some f) (entry_named q (without name es))
          ≡ cond (bytes_eq name q) None (cond b (Some f) (entry_named q es))
      first_stays rest ne true same = sym (ap (λ b. cond {A = Option DirEntry} b None (Some f))
          (other_name name q (λ is. false≢true (sym ne ∙ same_name f.name name
          (is_name f.name q same ∙ sym is)))))
      first_stays rest ne false other = rest

      by_test : entry_named q (without name es) ≡ cond (bytes_eq name q) None (entry_named q es)
          → (b : Bool) → bytes_eq f.name name ≡ b
          → entry_named q (cond b es (f ∷ without name es))
          ≡ cond (bytes_eq name q) None (cond (bytes_eq f.name q) (Some f) (entry_named q es))
      by_test rest true same = first_goes (is_name f.name name same) (bytes_eq name q) refl
      by_test rest false ne = first_stays rest ne (bytes_eq f.name q) refl

named_append : (q : List ℕ) (es : List DirEntry) (x : DirEntry)
    → entry_named q (es ++ x ∷ []) ≡ cond (is_some (entry_named q es)) (entry_named q es)
    (cond (bytes_eq x.name q) (Some x) None)
named_append q [] x = refl
named_append q (f ∷ es) x = by_test (named_append q es x) (bytes_eq f.name q) where
  by_test : entry_named q (es ++ x ∷ []) ≡ cond (is_some (entry_named q es)) (entry_named q es)
      (cond (bytes_eq x.name q) (Some x) None) → (b : Bool) → cond b (Some f) (entry_named q (es ++ x ∷ []))
      ≡ cond (is_some (cond b (Some f) (entry_named q es))) (cond b (Some f) (entry_named q es))
      (cond (bytes_eq x.name q) (Some x) None)
  by_test later true = refl
  by_test later false = later

or_none : {A : Type 0} (o : Option A) → cond (is_some o) o None ≡ o
or_none None = refl
or_none (Some a) = refl

named_put : (name q : List ℕ) (es : List DirEntry) (x : DirEntry) → x.name ≡ name
    → AreApartNames es → entry_named q (without name es ++ x ∷ [])
    ≡ cond (bytes_eq name q) (Some x) (entry_named q es)
named_put name q es x is apart = named_append q (without name es) x
    ∙ ap (λ o. cond (is_some o) o (cond (bytes_eq x.name q) (Some x) None))
    (named_without name q es apart)
    ∙ ap (λ n. cond (is_some (cond (bytes_eq name q) None (entry_named q es)))
    (cond (bytes_eq name q) None (entry_named q es)) (cond (bytes_eq n q) (Some x) None)) is
    ∙ by_test (bytes_eq name q) where
      by_test : (b : Bool) → cond (is_some (cond b None (entry_named q es)))
          (cond b None (entry_named q es)) (cond b (Some x) None)
          ≡ cond b (Some x) (entry_named q es)
      by_test true = refl
      by_test false = or_none (entry_named q es)

apart_without : (name : List ℕ) (es : List DirEntry) → AreApartNames es
    → AreApartNames (without name es)
apart_without name es apart = by_entry (entry_named name es) refl where
  by_entry : (o : Option DirEntry) → entry_named name es ≡ o → AreApartNames (without name es)
  by_entry None none = subst AreApartNames (sym (without_free name es none)) apart
  by_entry (Some e) is = let at = goes_at name es e is in subst AreApartNames (sym at.2)
      (all_pairs_remove (λ (e f : DirEntry). e.name ≢ f.name) es at.0 at.1 apart)

apart_put : (name : List ℕ) (es : List DirEntry) (x : DirEntry) → x.name ≡ name → AreApartNames es
    → AreApartNames (without name es ++ x ∷ [])
apart_put name es x is apart = all_pairs_push (λ (e f : DirEntry). e.name ≢ f.name)
    (without name es) x (apart_without name es apart)
    (λ k d low same. unnamed_all name (without name es)
    (named_without name name es apart ∙ ap (λ b. cond {A = Option DirEntry} b None
    (entry_named name es)) (same_name name name refl)) k d low (same ∙ is))

-- ---- the index

abbrev cookie_of : DirEntry → ℕ
cookie_of e = e.cookie

mapped : (b : Bool) (w o : Option DirEntry) → cond b (option_map cookie_of w)
    (option_map cookie_of o) ≡ option_map cookie_of (cond b w o)
mapped true w o = refl
mapped false w o = refl

module _ {Z : Type 0} where
  pub index_same : (old new : BTreeMap (Vec ℕ Z) ℕ) (es fs : List DirEntry)
      → new.entries ≡ old.entries → fs ≡ es → IsIndexOf old es → IsIndexOf new fs
  index_same old new es fs same is index = subst (IsIndexOf new) (sym is) (
    λ q. ap (λ (l : List (Vec ℕ Z × ℕ)). lookup (λ k. is_eq (slice_cmp nat_cmp q k.items)) l) same
        ∙ index.0 q,
    index.1,
  )

  pub index_none : (index : BTreeMap (Vec ℕ Z) ℕ) (es : List DirEntry) → index.entries ≡ []
      → es ≡ [] → IsIndexOf index es
  index_none index es empty is = subst (IsIndexOf index) (sym is) (
    λ q. ap (λ (l : List (Vec ℕ Z × ℕ)). lookup (λ k. is_eq (slice_cmp nat_cmp q k.items)) l) empty,
    λ i j d lt low. absurd (omega arith),
  )

  module _ (name : List ℕ) (old new : BTreeMap (Vec ℕ Z) ℕ) (es : List DirEntry)
      (index : IsIndexOf old es) where
    pub index_without : IsUpdated name None old new → IsIndexOf new (without name es)
    index_without change = (
      λ q. change q ∙ ap (cond (bytes_eq name q) None) (index.0 q)
          ∙ mapped (bytes_eq name q) None (entry_named q es)
          ∙ ap (option_map cookie_of) (sym (named_without name q es index.1)),
      apart_without name es index.1,
    )

    pub index_put : (x : DirEntry) → x.name ≡ name → IsUpdated name (Some x.cookie) old new
        → IsIndexOf new (without name es ++ x ∷ [])
    index_put x is change = (
      λ q. change q ∙ ap (cond (bytes_eq name q) (Some x.cookie)) (index.0 q)
          ∙ mapped (bytes_eq name q) (Some x) (entry_named q es)
          ∙ ap (option_map cookie_of) (sym (named_put name q es x is index.1)),
      apart_put name es x is index.1,
    )

-- ---- places

pub without_its_place : (name : List ℕ) (es : List DirEntry)
    → without_at (place_among name es) es ≡ without name es
without_its_place name es = by_place (place_among name es) refl where
  by_place : (o : Option ℕ) → place_among name es ≡ o → without_at o es ≡ without name es
  by_place None is = without_none name es is
  by_place (Some i) is = without_place name es i is

remove_before : (es : List DirEntry) (x : DirEntry) (i : ℕ) → i < length es
    → remove (es ++ x ∷ []) i ≡ remove es i ++ x ∷ []
remove_before [] x i low = absurd (omega arith)
remove_before (f ∷ es) x zero low = refl
remove_before (f ∷ es) x (suc i) low = ap (λ es. f ∷ es) (remove_before es x i (omega arith))

pub put_past_place : (name : List ℕ) (es : List DirEntry) (x : DirEntry)
    → IfSome (place_among name es) (λ k. k < length es)
    → without_at (place_among name es) (es ++ x ∷ []) ≡ without name es ++ x ∷ []
put_past_place name es x low = by_place (place_among name es) refl low where
  by_place : (o : Option ℕ) → place_among name es ≡ o → IfSome o (λ k. k < length es)
      → without_at o (es ++ x ∷ []) ≡ without name es ++ x ∷ []
  by_place None is low = ap (λ es. es ++ x ∷ []) (without_none name es is)
  by_place (Some i) is low = remove_before es x i low
      ∙ ap (λ es. es ++ x ∷ []) (without_place name es i is)

abbrev no_entry : DirEntry
no_entry = record { cookie = 0; name = []; ino = 0 }

abbrev place_or_end : List ℕ → List DirEntry → ℕ
place_or_end name es = position_or_len (is_called name) es

lt_true : (a b : ℕ) → a < b → nat_lt a b ≡ true
lt_true a b lt = grind (arith, nat_tests)

lt_false : (a b : ℕ) → b ≤ a → nat_lt a b ≡ false
lt_false a b le = grind (arith, nat_tests)

pub placed_at : (name : List ℕ) (es : List DirEntry) (i : ℕ) → i < length es → place_or_end name es ≡ i
    → place_among name es ≡ Some i
placed_at name es i low at = ap (λ n. cond (nat_lt n (length es)) (Some n) None) at
    ∙ ap (λ b. cond b (Some i) None) (lt_true i (length es) low)

pub placed_nowhere : (name : List ℕ) (es : List DirEntry) → entry_named name es ≡ None
    → place_among name es ≡ None
placed_nowhere name es none =
    let at : place_or_end name es ≡ length es =
    position_or_len_is (is_called name) es (length es) no_entry (omega arith)
    (λ k low. other_name (get_or es k no_entry).name name (unnamed_all name es none k no_entry low))
    (λ low. absurd (let never : ⊥ = omega arith in never)) in
    ap (λ n. cond (nat_lt n (length es)) (Some n) None) at
    ∙ ap (λ b. cond b (Some (length es)) None) (lt_false (length es) (length es) (omega arith))

-- what stands at the place of a name is its entry
pub got_named : (name : List ℕ) (es : List DirEntry) (o : Option ℕ) → o ≡ place_among name es
    → option_and_then (slice_get es) o ≡ entry_named name es
got_named name es o is = ap (option_and_then (slice_get es)) is
    ∙ by_test (nat_lt (place_or_end name es) (length es)) refl ∙ sym (find_at (is_called name) es) where
      by_test : (b : Bool) → nat_lt (place_or_end name es) (length es) ≡ b
          → option_and_then (slice_get es) (cond b (Some (place_or_end name es)) None)
          ≡ slice_get es (place_or_end name es)
      by_test true low = refl
      by_test false high = sym (past es (place_or_end name es)
          (let far : length es ≤ place_or_end name es = grind (arith, nat_tests) in omega arith))

-- ---- the place that the cookie leads to

at_least : (name : List ℕ) (from : ℕ) (es : List DirEntry) (end : ℕ) (e : DirEntry)
    → CookiesRise from es end → entry_named name es ≡ Some e → from ≤ e.cookie
at_least name from [] end e rise is = absurd (cc)
at_least name from (f ∷ es) end e rise is = by_test (bytes_eq f.name name) is
    (λ is. at_least name (f.cookie + 1) es end e rise.1 is) where
      by_test : (b : Bool) → cond b (Some f) (entry_named name es) ≡ Some e
          → (entry_named name es ≡ Some e → f.cookie + 1 ≤ e.cookie) → from ≤ e.cookie
      by_test true is later = let same : f ≡ e = cc in
          let one = ap (λ (e : DirEntry). e.cookie) same in let first = rise.0 in omega arith
      by_test false is later = let low = later is in let first = rise.0 in omega arith

abbrev IsPointOf : ℕ → List DirEntry → ℕ → Type 0
IsPointOf cookie es i = IsPartitionPoint (λ (e : DirEntry). nat_lt e.cookie cookie ≡ true)
    (λ (e : DirEntry). nat_lt e.cookie cookie ≡ false) es i

stands : (name : List ℕ) (from : ℕ) (es : List DirEntry) (end : ℕ) (e : DirEntry)
    → CookiesRise from es end → entry_named name es ≡ Some e → (i : ℕ) → i ≤ length es
    → IsPointOf e.cookie es i → (i < length es) × (place_or_end name es ≡ i)
stands name from [] end e rise is i le point = absurd (cc)
stands name from (f ∷ es) end e rise is i le point = by_test
    (λ is i le point. stands name (f.cookie + 1) es end e rise.1 is i le (
      λ k d low high. point.0 (suc k) d (omega arith) (omega arith),
      λ k d low high. point.1 (suc k) d (omega arith) (omega arith),
    ))
    (bytes_eq f.name name) refl is i le point where
      by_test : (entry_named name es ≡ Some e → (i : ℕ) → i ≤ length es
          → IsPointOf e.cookie (f ∷ es) (suc i) → (i < length es) × (place_or_end name es ≡ i)) → (b : Bool) → bytes_eq f.name name ≡ b → cond b (Some f) (entry_named name es)
          ≡ Some e → (i : ℕ) → i ≤ length (f ∷ es) → IsPointOf e.cookie (f ∷ es) i
          → (i < length (f ∷ es)) × (cond (not b) (1 + place_or_end name es) 0 ≡ i)
      by_test later true same is zero le point = (omega arith, refl)
      by_test later true same is (suc i) le point =
          let one : f ≡ e = cc in
          let cookie = ap (λ (e : DirEntry). e.cookie) one in
          let low = point.0 0 f (omega arith) (omega arith) in
          let never : f.cookie < e.cookie = grind (arith, nat_tests) in
          absurd (omega arith)
      by_test later false ne is zero le point =
          let above = at_least name (f.cookie + 1) es end e rise.1 is in
          let high = point.1 0 f (omega arith) (omega arith) in
          let never : e.cookie ≤ f.cookie = grind (arith, nat_tests) in
          absurd (omega arith)
      by_test later false ne is (suc i) le point =
          let rest = later is i (omega arith) point in
          ((let low = rest.0 in omega arith), (let at = rest.1 in omega arith))

found_none : (o : Option DirEntry) → None ≡ option_map cookie_of o → o ≡ None
found_none None is = refl
found_none (Some e) is = absurd (cc)

one_entry : (cookie : ℕ) (o : Option DirEntry) → Some cookie ≡ option_map cookie_of o
    → (e : DirEntry) × (o ≡ Some e) × (e.cookie ≡ cookie)
one_entry cookie None is = absurd (cc)
one_entry cookie (Some e) is = (e, refl, (let same : cookie ≡ e.cookie = cc in sym same))

module _ {Z : Type 0} (index : BTreeMap (Vec ℕ Z) ℕ) (es : List DirEntry)
    (indexed : IsIndexOf index es) (name : List ℕ) where
  pub no_place : None ≡ cookie_at index name → None ≡ place_among name es
  no_place none = sym (placed_nowhere name es
      (found_none (entry_named name es) (none ∙ indexed.0 name)))

  pub place_by_cookie : (next : ℕ) → AreInOrder es next → (cookie : ℕ)
      → Some cookie ≡ cookie_at index name → (i : ℕ) → i ≤ length es → IsPointOf cookie es i
      → (i < length es) × (Some i ≡ place_among name es)
  place_by_cookie next order cookie is i le point =
      let w = one_entry cookie (entry_named name es) (is ∙ indexed.0 name) in
      let at = stands name 0 es next w.0 (rises es next order) w.1 i le
      (subst (λ n. IsPointOf n es i) (sym w.2) point) in
      (at.0, sym (placed_at name es i at.0 at.1))
