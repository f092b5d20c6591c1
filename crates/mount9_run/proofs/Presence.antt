-- Whether one of some paths passes a test, in the loop over them.
use Rattle.std.proofs.Common.{◌≡◌, ℕ, suc, ◌+◌, ◌≤◌, List, length, drop, Some, Bool, true, false}
use Rattle.std.proofs.Common.{◌||◌, refl, sym, ap, ◌∙◌, add-one}
use Rattle.std.specs.Prelude.{slice_get}
use Rattle.std.specs.List.{list_any}
use Rattle.std.proofs.lemmas.List.{drop_all}
use Rattle.mount9_run.proofs.WordSteps.{drop-get}

module _ (f : List ℕ → Bool) (ws : List (List ℕ)) (i : ℕ) (w : List ℕ)
    (here : slice_get ws i ≡ Some w) where
  pub any-more : f w ≡ false → list_any f (drop i ws) ≡ list_any f (drop (i + 1) ws)
  any-more fails = rw (drop-get ws i w here, add-one)
      (ap (λ b. b || list_any f (drop (suc i) ws)) fails)

  pub any-found : f w ≡ true → list_any f (drop i ws) ≡ true
  any-found passes = rw (drop-get ws i w here) (ap (λ b. b || list_any f (drop (suc i) ws)) passes)

pub any-end : (f : List ℕ → Bool) (ws : List (List ℕ)) (i : ℕ) → length ws ≤ i
    → list_any f (drop i ws) ≡ false
any-end f ws i le = rw (drop_all i ws le) refl

or_true : (b : Bool) → (b || true) ≡ true
or_true true = refl
or_true false = refl

pub present-found : (first : Bool) (f : List ℕ → Bool) (ws : List (List ℕ)) (i : ℕ) (w : List ℕ)
    → slice_get ws i ≡ Some w → list_any f ws ≡ list_any f (drop i ws) → f w ≡ true
    → true ≡ (first || list_any f ws)
present-found first f ws i w here so_far passes =
    sym (ap (λ b. first || b) (so_far ∙ any-found f ws i w here passes) ∙ or_true first)
