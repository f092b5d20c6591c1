-- The entries of a `BTreeMap` stand in the map's order, so the first above a key is the next.
use Rattle.std.proofs.Common.{◌≡◌, ℕ, Bool, true, false, cond, not, ◌&&◌, List, [], ◌∷◌, map, refl}
use Rattle.std.proofs.Common.{sym, ap, ◌∙◌, subst, Some, None, arith, nat_lt}
use Rattle.std.specs.Prelude.{T, find as first_where, filter}
use Rattle.std.specs.declared.cmp.Ordering.TheVariants.{Less}
use Rattle.std.specs.Ordering.{nat_cmp, is_lt}
use Rattle.std.specs.Cmp.{nat_cmp_total}
use Rattle.std.specs.List.{AllByRecursion}
use Rattle.std.specs.List.Sorted.{IsStrictlySortedBy}
use Rattle.std.specs.FinMap.{entries, from_entries, from_sorted, is_sorted, get-from_entries}
use Rattle.std.specs.FinMap.{get-from_sorted, entries-from_sorted, same_map}
use Rattle.std.specs.FinMap.{nat_cmp-IsAntisymmetric}
use Rattle.std.proofs.lemmas.Bool.Decides.{nat_tests}
use Rattle.port_base.specs.Tables.{next_after}

both : (a b : Bool) → T a → T b → T (a && b)
both true b p q = q
both false b p q = p

same_test : (key k : ℕ) → (is_lt (nat_cmp key k) && not false) ≡ nat_lt key k
same_test key k = grind (arith, nat_tests)

module _ {V : Type 0} where
  abbrev below_all : ℕ → List (ℕ × V) → Bool
  below_all x [] = true
  below_all x (e ∷ es) = is_lt (nat_cmp x e.0) && below_all x es

  rises_from : (x : ℕ) (es : List (ℕ × V)) → AllByRecursion (λ y. nat_cmp x y ≡ Less)
      (map (λ e. e.0) es) → T (below_all x es)
  rises_from x [] h = tt
  rises_from x (e ∷ es) h = both _ _ (subst (λ r. T (is_lt r)) (sym h.0) tt) (rises_from x es h.1)

  rises : (es : List (ℕ × V)) → IsStrictlySortedBy nat_cmp (map (λ e. e.0) es)
      → T (is_sorted nat_cmp es)
  unfolding IsStrictlySortedBy
  rises [] h = tt
  rises (e ∷ es) h = both _ _ (rises_from e.0 es h.0) (rises es h.1)

  entries_view : (es : List (ℕ × V)) → IsStrictlySortedBy nat_cmp (map (λ e. e.0) es)
      → entries (from_entries {R = nat_cmp} es) ≡ es
  entries_view es h =
      let sorted = rises es h in
      let same : from_entries {R = nat_cmp} es ≡ from_sorted es =
      same_map nat_cmp_total nat_cmp-IsAntisymmetric _ _
      (λ q. get-from_entries nat_cmp_total es q ∙ sym (get-from_sorted nat_cmp es q sorted)) in
      ap entries same ∙ entries-from_sorted nat_cmp es sorted

  first_of : (p q : ℕ × V → Bool) → ((e : ℕ × V) → p e ≡ q e)
      → (es : List (ℕ × V)) (x : ℕ × V) (rest : List (ℕ × V)) → filter p es ≡ x ∷ rest
      → first_where q es ≡ Some x
  first_of p q same [] x rest is = absurd (cc)
  first_of p q same (e ∷ es) x rest is = by_test (p e) refl (λ is. first_of p q same es x rest is)
      is where
        by_test : (b : Bool) → p e ≡ b → (filter p es ≡ x ∷ rest → first_where q es ≡ Some x)
            → cond b (e ∷ filter p es) (filter p es) ≡ x ∷ rest
            → cond (q e) (Some e) (first_where q es) ≡ Some x
        by_test true passes later is = ap (λ b. cond b (Some e) (first_where q es))
            (sym (same e) ∙ passes) ∙ ap (λ x. Some x) (let one : e ≡ x = cc in one)
        by_test false fails later is = ap (λ b. cond b (Some e) (first_where q es))
            (sym (same e) ∙ fails) ∙ later is

  none_of : (p q : ℕ × V → Bool) → ((e : ℕ × V) → p e ≡ q e) → (es : List (ℕ × V))
      → filter p es ≡ [] → first_where q es ≡ None
  none_of p q same [] is = refl
  none_of p q same (e ∷ es) is = by_test (p e) refl (λ is. none_of p q same es is) is where
    by_test : (b : Bool) → p e ≡ b → (filter p es ≡ [] → first_where q es ≡ None)
        → cond b (e ∷ filter p es) (filter p es) ≡ []
        → cond (q e) (Some e) (first_where q es) ≡ None
    by_test true passes later is = absurd (cc)
    by_test false fails later is = ap (λ b. cond b (Some e) (first_where q es))
        (sym (same e) ∙ fails) ∙ later is

  module _ (key : ℕ) (es : List (ℕ × V)) (h : IsStrictlySortedBy nat_cmp (map (λ e. e.0) es)) where
    -- the first entry of the range above a key is the next
    pub next_view : (x : ℕ × V) (rest range : List (ℕ × V))
        → range ≡ filter (λ e. is_lt (nat_cmp key e.0) && not false) es → range ≡ x ∷ rest
        → Some x ≡ next_after key (from_entries es)
    next_view x rest range is has = sym (first_of (λ e. is_lt (nat_cmp key e.0) && not false)
        (λ e. nat_lt key e.0) (λ e. same_test key e.0) es x rest (sym is ∙ has))
        ∙ ap (first_where (λ e. nat_lt key e.0)) (sym (entries_view es h))

    pub no_next_view : (range : List (ℕ × V))
        → range ≡ filter (λ e. is_lt (nat_cmp key e.0) && not false) es → range ≡ []
        → None ≡ next_after key (from_entries es)
    no_next_view range is has = sym (none_of (λ e. is_lt (nat_cmp key e.0) && not false)
        (λ e. nat_lt key e.0) (λ e. same_test key e.0) es (sym is ∙ has))
        ∙ ap (first_where (λ e. nat_lt key e.0)) (sym (entries_view es h))
