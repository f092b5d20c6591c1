-- The first entry of a map that passes a test stands at its key; where there is none, no value
-- passes it.
use Rattle.std.proofs.Common.{◌≡◌, ℕ, Bool, true, false, cond, List, [], ◌∷◌, refl, sym, ap, ◌∙◌}
use Rattle.std.proofs.Common.{subst, Some, None, ⊎_elim}
use Rattle.std.specs.Prelude.{find, T}
use Rattle.std.proofs.lemmas.Bool.{cases_eq}
use Rattle.std.specs.Ordering.{nat_cmp, eq_by_cmp}
use Rattle.std.specs.FinMap as map
use Rattle.std.specs.FinMap.{FinMap, entries, entries_sorted, get-entries, is_sorted}
use Rattle.tree_model.proofs.Maps.{at_itself, apart}
use Rattle.tree_model.proofs.Counting.{find_below, first, second}

module _ {X : Type 0} (p : ℕ × X → Bool) where
  in_list : (es : List (ℕ × X)) (e : ℕ × X) → T (is_sorted nat_cmp es) → find p es ≡ Some e
      → (map.find nat_cmp e.0 es ≡ Some e.1) × (p e ≡ true)
  in_list [] e h at = absurd (cc)
  in_list (f ∷ es) e h at =
      (λ (b : Bool) (is : p f ≡ b). (elim b as
      (λ b. p f ≡ b → (map.find nat_cmp e.0 (f ∷ es) ≡ Some e.1) × (p e ≡ true)) [
        | true ↦ λ is.
            let one : Some f ≡ Some e = rw is at at in
            let same : f ≡ e = cc in (
              subst (λ k. cond (eq_by_cmp nat_cmp k f.0) (Some f.1) (map.find nat_cmp k es) ≡ Some
                  e.1) (ap (λ (g : ℕ × X). g.0) same)
                  (ap (λ b. cond b (Some f.1) (map.find nat_cmp f.0 es)) (at_itself f.0)
                  ∙ ap (λ (g : ℕ × X). Some g.1) same),
              subst (λ g. p g ≡ true) same is,
            )
        | false ↦ λ is.
            let rest : find p es ≡ Some e = rw is at at in
            let there = in_list es e (second _ _ h) rest in (
              ⊎_elim
                  (λ eq. absurd (let none : map.find nat_cmp e.0 es ≡ None =
                  subst (λ k. map.find nat_cmp k es ≡ None) (sym eq)
                  (find_below f.0 es (first _ _ h)) in let some = there.0 in cc))
                  (λ ne. ap (λ b. cond b (Some f.1) (map.find nat_cmp e.0 es)) (apart e.0 f.0 ne)
                  ∙ there.0)
                  (cases_eq e.0 f.0),
              there.1,
            )
      ]) is) (p f) refl

  pub first_entry : (m : FinMap nat_cmp X) (e : ℕ × X) → find p (entries m) ≡ Some e
      → (map.get m e.0 ≡ Some e.1) × (p e ≡ true)
  first_entry m e at = let there = in_list (entries m) e (entries_sorted m) at
      in (get-entries m e.0 ∙ there.0, there.1)

  none_in_list : (es : List (ℕ × X)) (k : ℕ) (x : X) → find p es ≡ None
      → map.find nat_cmp k es ≡ Some x → p (k, x) ≡ false
  none_in_list [] k x none at = absurd cc
  none_in_list (f ∷ es) k x none at =
      (λ (b : Bool) (is : p f ≡ b). (elim b as (λ b. p f ≡ b → p (k, x) ≡ false) [
        | true ↦ λ is. absurd (let one : Some f ≡ None = rw is at none in cc)
        | false ↦ λ is.
            let rest : find p es ≡ None = rw is at none in
            ⊎_elim
            (λ eq.
            let here : Some f.1 ≡ Some x = sym
            (ap (λ b. cond b (Some f.1) (map.find nat_cmp k es))
            (ap (λ j. eq_by_cmp nat_cmp k j) (sym eq) ∙ at_itself k)) ∙ at in
            let value : f.1 ≡ x = cc in
            let pair : f ≡ (k, x) = λ t. (sym eq t, value t) in
            ap p (sym pair) ∙ is)
            (λ ne. none_in_list es k x rest (sym
            (ap (λ b. cond b (Some f.1) (map.find nat_cmp k es)) (apart k f.0 ne)) ∙ at))
            (cases_eq k f.0)
      ]) is) (p f) refl

  pub none_passes : (m : FinMap nat_cmp X) (k : ℕ) (x : X) → find p (entries m) ≡ None
      → map.get m k ≡ Some x → p (k, x) ≡ false
  none_passes m k x none at = none_in_list (entries m) k x none (sym (get-entries m k) ∙ at)
