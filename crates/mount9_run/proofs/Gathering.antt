-- The loops over lines of one kind.
use Rattle.std.proofs.Common.{◌≡◌, ℕ, ◌+◌, List, [], ◌∷◌, Some, None, Result, Ok, Err, refl, ap}
use Rattle.std.proofs.Common.{◌∙◌}
use Rattle.std.specs.declared.option.Option.{Option}
use Rattle.mount9_run.specs.Reading.{Fails, Place, line_at, gathered, gathered_by}
use Rattle.mount9_run.specs.declared.header.error.HeaderError.{HeaderError}
use Rattle.mount9_run.specs.declared.header.error.HeaderError.TheVariants.{Line, NoMemory}

same_ok : {A : Type 0} (x y : A) → ◌≡◌ {A = Result A ℕ} (Ok x) (Ok y) → x ≡ y
same_ok x y h = cc

-- a refusal of a step is a refusal of the whole
pub Fails-from : {A B : Type 0} (e : HeaderError) (r : Result A ℕ) (q : Result B ℕ)
    → ((k : ℕ) → r ≡ Err k → q ≡ Err k) → Fails e r → Fails e q
Fails-from NoMemory r q f h = tt
Fails-from (Line k) r q f h = f k h

module _ {X : Type 0} (with_line : ℕ → X → List ℕ → Result (Option X) ℕ) (x : X) (n m : ℕ)
    (l : List ℕ) (rest : List (List ℕ)) where
  gathered-by : (ls : List (List ℕ)) → line_at (n, ls) ≡ Ok (l, (m, rest))
      → gathered with_line x n ls ≡ gathered_by (with_line n x l) (x, (n, ls))
      (λ y. gathered with_line y m rest)
  unfolding gathered
  gathered-by [] h = cc
  gathered-by (k ∷ ks) h =
      let e : (k, (n + 1, ks)) ≡ (l, (m, rest)) = same_ok _ _ h in
      let first : k ≡ l = ap (λ (p : List ℕ × Place). p.0) e in
      let number : n + 1 ≡ m = ap (λ (p : List ℕ × Place). p.1.0) e in
      let others : ks ≡ rest = ap (λ (p : List ℕ × Place). p.1.1) e in
      rw (first, number, others) refl

  module _ (ls : List (List ℕ)) (here : line_at (n, ls) ≡ Ok (l, (m, rest))) where
    pub gathered-end : (y : X) → with_line n x l ≡ Ok None → y ≡ x
        → gathered with_line x n ls ≡ Ok (y, (n, ls))
    gathered-end y e same = gathered-by ls here ∙ (rw (e, same) refl)

    pub gathered-more : (y : X) → with_line n x l ≡ Ok (Some y)
        → gathered with_line x n ls ≡ gathered with_line y m rest
    gathered-more y e = gathered-by ls here ∙ (rw e refl)

    pub gathered-stop : (k : ℕ) → with_line n x l ≡ Err k → gathered with_line x n ls ≡ Err k
    gathered-stop k e = gathered-by ls here ∙ (rw e refl)

pub gathered-none : {X : Type 0} (with_line : ℕ → X → List ℕ → Result (Option X) ℕ) (x : X) (n : ℕ)
    (ls : List (List ℕ)) (k : ℕ) → line_at (n, ls) ≡ Err k → gathered with_line x n ls ≡ Err k
unfolding gathered
gathered-none with_line x n [] k h = cc
gathered-none with_line x n (l ∷ ls) k h = cc
