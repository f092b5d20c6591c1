-- Walks over lists whose keys rise: what is left above a key, and what a map from numbers has
-- there.
use Rattle.std.proofs.Common.{◌≡◌, ◌≢◌, ℕ, ◌+◌, ◌<◌, ◌≤◌, Bool, true, false, cond, List, [], ◌∷◌}
use Rattle.std.proofs.Common.{refl, sym, ap, ◌∙◌, subst, Option, Some, None, arith, nat_lt}
use Rattle.std.specs.Prelude.{T, find as first_where, filter}
use Rattle.std.specs.Ordering.{nat_cmp, is_lt}
use Rattle.std.proofs.lemmas.Bool.Decides.{nat_tests}
use Rattle.std.specs.FinMap.{FinMap, get, entries, entries_sorted, is_sorted, find, retain_keys}
use Rattle.std.specs.FinMap.{from_sorted, get-from_sorted, get-entries, entries-from_sorted}
use Rattle.std.specs.FinMap.{nat_cmp-IsAntisymmetric}
use Rattle.std.specs.FinMap.Entries.{is_sorted-where_key, find-where_key}
use Rattle.tree_model.proofs.Maps.{at_itself, apart, retained, same_gets}
use Rattle.tree_model.proofs.Counting.{below_all, first, second}

less_passes : (a b : ℕ) → a < b → nat_lt a b ≡ true
less_passes a b h = grind (arith, nat_tests)

other_fails : (a b : ℕ) → b ≤ a → nat_lt a b ≡ false
other_fails a b h = grind (arith, nat_tests)

passes_less : (a b : ℕ) → nat_lt a b ≡ true → a < b
passes_less a b h = grind (arith, nat_tests)

fails_other : (a b : ℕ) → nat_lt a b ≡ false → b ≤ a
fails_other a b h = grind (arith, nat_tests)

module _ {X : Type 0} (key : X → ℕ) where
  -- keys rise, from at least the one given
  abbrev pub Rises : ℕ → List X → Type 0
  Rises from [] = Unit {0}
  Rises from (x ∷ xs) = (from ≤ key x) × Rises (key x + 1) xs

  -- what stands above a key
  abbrev pub above : ℕ → List X → List X
  above k xs = filter (λ x. nat_lt k (key x)) xs

  abbrev first_above : ℕ → List X → Option X
  first_above k xs = first_where (λ x. nat_lt k (key x)) xs

  pub above-all : (k from : ℕ) (xs : List X) → Rises from xs → k < from → above k xs ≡ xs
  above-all k from [] h lt = refl
  above-all k from (x ∷ xs) h lt =
      let low : from ≤ key x = h.0 in
      ap (λ b. cond b (x ∷ above k xs) (above k xs)) (less_passes k (key x) (omega arith))
      ∙ ap (λ l. x ∷ l) (above-all k (key x + 1) xs h.1 (omega arith))

  -- the first above a key, and what is above that one
  pub above-next : (k from : ℕ) (xs : List X) (x : X) → Rises from xs → first_above k xs ≡ Some x
      → (above k xs ≡ x ∷ above (key x) xs) × (k < key x)
  above-next k from [] x h is = absurd (cc)
  above-next k from (y ∷ ys) x h is = by_test (nat_lt k (key y)) refl
      (λ is. above-next k (key y + 1) ys x h.1 is) is where
        by_test : (b : Bool) → nat_lt k (key y) ≡ b
            → (first_above k ys ≡ Some x → (above k ys ≡ x ∷ above (key x) ys) × (k < key x))
            → cond b (Some y) (first_above k ys) ≡ Some x
            → (cond b (y ∷ above k ys) (above k ys) ≡ x
            ∷ cond (nat_lt (key x) (key y)) (y ∷ above (key x) ys) (above (key x) ys)) × (k < key x)
        by_test true passes later is =
            let same : y ≡ x = cc in
            let lt : k < key y = passes_less k (key y) passes in
            let rest : above k ys ≡ cond (nat_lt (key y) (key y)) (y ∷ above (key y) ys)
            (above (key y) ys) =
            above-all k (key y + 1) ys h.1 (omega arith)
            ∙ sym (above-all (key y) (key y + 1) ys h.1 (omega arith))
            ∙ sym (ap (λ b. cond b (y ∷ above (key y) ys) (above (key y) ys))
            (other_fails (key y) (key y) (omega arith))) in
            subst (λ z. (y ∷ above k ys ≡ z ∷ cond (nat_lt (key z) (key y)) (y ∷ above (key z) ys)
            (above (key z) ys)) × (k < key z)) same (ap (λ l. y ∷ l) rest, lt)
        by_test false fails later is =
            let found = later is in
            let low : key y ≤ k = fails_other k (key y) fails in
            let up : k < key x = found.1 in (
              found.0 ∙ ap (λ l. x ∷ l) (sym (ap
                  (λ b. cond b (y ∷ above (key x) ys) (above (key x) ys))
                  (other_fails (key x) (key y) (omega arith)))),
              found.1,
            )

  pub above-none : (k : ℕ) (xs : List X) → first_above k xs ≡ None → above k xs ≡ []
  above-none k [] is = refl
  above-none k (y ∷ ys) is = by_test (nat_lt k (key y)) (λ is. above-none k ys is) is where
    by_test : (b : Bool) → (first_above k ys ≡ None → above k ys ≡ [])
        → cond b (Some y) (first_above k ys) ≡ None → cond b (y ∷ above k ys) (above k ys) ≡ []
    by_test true later is = absurd (cc)
    by_test false later is = later is

-- ---- maps from numbers

T-true : (b : Bool) → T b → b ≡ true
T-true true h = refl
T-true false h = absurd h

same_test : (x y : ℕ) → is_lt (nat_cmp x y) ≡ nat_lt x y
same_test x y = grind (arith, nat_tests)

next_up : (x y : ℕ) → T (is_lt (nat_cmp x y)) → x + 1 ≤ y
next_up x y h = let lt : x < y = passes_less x y (sym (same_test x y) ∙ T-true _ h) in omega arith

module _ {X : Type 0} where
  abbrev pub number : ℕ × X → ℕ
  number e = e.0

  rises_after : (x : ℕ) (es : List (ℕ × X)) → T (below_all x es) → T (is_sorted nat_cmp es)
      → Rises number (x + 1) es
  rises_after x [] b s = tt
  rises_after x (e ∷ es) b s = (
    next_up x e.0 (first _ _ b),
    rises_after e.0 es (first _ _ s)
        (second _ _ s),
  )

  find_first : (e : ℕ × X) (es : List (ℕ × X)) → find nat_cmp e.0 (e ∷ es) ≡ Some e.1
  find_first e es = ap (λ b. cond b (Some e.1) (find nat_cmp e.0 es)) (at_itself e.0)

  find_later : (e : ℕ × X) (es : List (ℕ × X)) (q : ℕ) → q ≢ e.0
      → find nat_cmp q (e ∷ es) ≡ find nat_cmp q es
  find_later e es q ne = ap (λ b. cond b (Some e.1) (find nat_cmp q es)) (apart q e.0 ne)

  rises_one : (es : List (ℕ × X)) → T (is_sorted nat_cmp es)
      → ((i : ℕ) (x : X) → find nat_cmp i es ≡ Some x → 1 ≤ i) → Rises number 1 es
  rises_one [] s h = tt
  rises_one (e ∷ es) s h = (
    h e.0 e.1 (find_first e es),
    rises_after e.0 es (first _ _ s)
        (second _ _ s),
  )

  -- the entries of a map whose keys are at least 1
  pub entries-rise : (m : FinMap nat_cmp X) → ((i : ℕ) (x : X) → get m i ≡ Some x → 1 ≤ i)
      → Rises number 1 (entries m)
  entries-rise m h = rises_one (entries m) (entries_sorted m)
      (λ i x is. h i x (get-entries m i ∙ is))

  found_at : (k from : ℕ) (es : List (ℕ × X)) → Rises number from es → (e : ℕ × X)
      → first_where (λ e. nat_lt k e.0) es ≡ Some e → (find nat_cmp e.0 es ≡ Some e.1)
      × (from ≤ e.0)
  found_at k from [] h e is = absurd (cc)
  found_at k from (f ∷ es) h e is = by_test (nat_lt k f.0) (λ is. found_at k (f.0 + 1) es h.1 e is)
      is where
        by_test : (b : Bool) → (first_where (λ e. nat_lt k e.0) es ≡ Some e
            → (find nat_cmp e.0 es ≡ Some e.1) × (f.0 + 1 ≤ e.0))
            → cond b (Some f) (first_where (λ e. nat_lt k e.0) es) ≡ Some e
            → (find nat_cmp e.0 (f ∷ es) ≡ Some e.1) × (from ≤ e.0)
        by_test true later is = let same : f ≡ e =
            cc in subst (λ (e : ℕ × X). (find nat_cmp e.0 (f ∷ es) ≡ Some e.1) × (from ≤ e.0)) same
            (find_first f es, h.0)
        by_test false later is =
            let rest = later is in
            let low : from ≤ f.0 = h.0 in
            let up : f.0 + 1 ≤ e.0 = rest.1 in
            (find_later f es e.0 (λ q. absurd (omega arith)) ∙ rest.0, omega arith)

  -- what the first entry above a key has is what the map has at its key
  pub get-first : (m : FinMap nat_cmp X) → Rises number 1 (entries m) → (k : ℕ) (e : ℕ × X)
      → first_where (λ e. nat_lt k e.0) (entries m) ≡ Some e → get m e.0 ≡ Some e.1
  get-first m h k e is = get-entries m e.0 ∙ (found_at k 1 (entries m) h e is).0

  pub entries-retain_keys : (m : FinMap nat_cmp X) (p : ℕ → Bool)
      → entries (retain_keys m p) ≡ filter (λ e. p e.0) (entries m)
  entries-retain_keys m p =
      let left : List (ℕ × X) = filter (λ e. p e.0) (entries m) in
      let sorted : T (is_sorted nat_cmp left) =
      is_sorted-where_key nat_cmp p (entries m) (entries_sorted m) in
      let same : from_sorted {R = nat_cmp} left ≡ retain_keys m p = same_gets _ _ (λ q.
      get-from_sorted nat_cmp left q sorted
      ∙ find-where_key nat_cmp p q (λ x e. ap p (sym (nat_cmp-IsAntisymmetric q x e))) (entries m)
      ∙ ap (λ o. cond (p q) o None) (sym (get-entries m q))
      ∙ sym (retained m p q)) in
      ap entries (sym same) ∙ entries-from_sorted nat_cmp left sorted
