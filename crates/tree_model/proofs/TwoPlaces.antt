-- Records that differ at two places alone.
use Rattle.std.proofs.Common.{◌≡◌, ◌≢◌, ℕ, IsSome, sym, ap, ◌∙◌, subst, refl, ⊎_elim}
use Rattle.std.proofs.lemmas.Bool.{cases_eq}
use Rattle.std.specs.FinMap.{get}
use Rattle.tree_model.specs.Tree.{Record, Records}
use Rattle.tree_model.specs.Good.{IsAt}
use Rattle.tree_model.proofs.Bodies.{same_some}

module _ (rs made : Records) (one other : ℕ) (first second : Record) (at_one : IsAt made one first)
    (at_other : IsAt made other second)
    (elsewhere : (q : ℕ) → q ≢ one → q ≢ other → get made q ≡ get rs q) where
  -- what holds at both places, and everywhere else
  pub by_place : (P : ℕ → Record → Type 0) → P one first → P other second
      → ((q : ℕ) (r : Record) → q ≢ one → q ≢ other → IsAt rs q r → P q r) → (q : ℕ) (r : Record)
      → IsAt made q r → P q r
  by_place P here there rest q r is = ⊎_elim
      (λ eq. let same = same_some first r (sym at_one ∙ sym (ap (get made) eq) ∙ is) in subst
      (λ q. P q r) (sym eq) (subst (P one) same here))
      (λ ne. ⊎_elim
      (λ eq. let same = same_some second r (sym at_other ∙ sym (ap (get made) eq) ∙ is) in subst
      (λ q. P q r) (sym eq) (subst (P other) same there))
      (λ nd. rest q r ne nd (sym (elsewhere q ne nd) ∙ is))
      (cases_eq q other))
      (cases_eq q one)

  pub stored : (q : ℕ) → IsSome (get rs q) → IsSome (get made q)
  stored q had = ⊎_elim
      (λ eq. subst IsSome (sym (ap (get made) eq ∙ at_one)) refl)
      (λ ne. ⊎_elim (λ eq. subst IsSome (sym (ap (get made) eq ∙ at_other)) refl)
      (λ nd. subst IsSome (sym (elsewhere q ne nd)) had) (cases_eq q other))
      (cases_eq q one)

  -- what is stored was stored, but at the first place
  pub was_stored_but : (d : Record) → IsAt rs other d → (q : ℕ) → q ≢ one → IsSome (get made q)
      → IsSome (get rs q)
  was_stored_but d at q ne had = ⊎_elim (λ eq. subst IsSome (sym (ap (get rs) eq ∙ at)) refl)
      (λ nd. subst IsSome (elsewhere q ne nd) had) (cases_eq q other)

  pub was_stored : (x d : Record) → IsAt rs one x → IsAt rs other d → (q : ℕ)
      → IsSome (get made q) → IsSome (get rs q)
  was_stored x d there at q had = ⊎_elim
      (λ eq. subst IsSome (sym (ap (get rs) eq ∙ there)) refl)
      (λ ne. was_stored_but d at q ne had)
      (cases_eq q one)
