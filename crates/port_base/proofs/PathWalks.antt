-- What walking two paths side by side says of their components.
use Rattle.std.proofs.Common.{◌≡◌, ℕ, Bool, true, false, List, [], ◌∷◌, ◌++◌, Some, None, refl}
use Rattle.std.proofs.Common.{cond, MatchOption}
use Rattle.std.specs.declared.option.Option.{Option}
use Rattle.std.specs.Borrow.{Bor}
use Rattle.std.specs.Prelude.{is_some, bytes_eq, ◌&&◌, not}
use Rattle.std.specs.Option.{option_map, option_to_list}
use Rattle.std.specs.List.{starts_with}
use Rattle.std.specs.Cmp.Lexicographic.{pointwise}
use Rattle.std.proofs.Common.{Decides}
use Rattle.std.proofs.lemmas.Slice.Eq.{bytes_eq-Decides, slice_eq-Decides}
use Rattle.port_base.specs.Paths.{components, same_path, strip, TakesLead}

pub TakesLead-from : (lead : Option (List ℕ)) (names : List (List ℕ))
    → TakesLead (option_to_list lead ++ names) names lead
TakesLead-from None names = refl
TakesLead-from (Some part) names = refl

pub is_some-map : {A B : Type 0} (f : A → B) (r : Option A) → is_some (option_map f r) ≡ is_some r
is_some-map f None = refl
is_some-map f (Some x) = refl

-- nothing is left
abbrev pub is_all : Option (List (List ℕ)) → Bool
is_all None = false
is_all (Some []) = true
is_all (Some (part ∷ rest)) = false

step-same : (b : Bool) (rest : Option (List (List ℕ))) (more : Bool) → is_all rest ≡ more
    → is_all (cond b rest None) ≡ b && more
step-same true rest more h = h
step-same false rest more h = refl

pub strip-same : (parts base : List (List ℕ))
    → is_all (strip parts base) ≡ pointwise bytes_eq base parts
strip-same [] [] = refl
strip-same (own ∷ parts) [] = refl
strip-same [] (part ∷ base) = refl
strip-same (own ∷ parts) (part ∷ base) = step-same (bytes_eq part own) (strip parts base)
    (pointwise bytes_eq base parts) (strip-same parts base)

step-starts : (b : Bool) (rest : Option (List (List ℕ))) (more : Bool) → is_some rest ≡ more
    → is_some (cond b rest None) ≡ b && more
step-starts true rest more h = h
step-starts false rest more h = refl

pub strip-starts : (parts base : List (List ℕ))
    → is_some (strip parts base) ≡ starts_with bytes_eq parts base
strip-starts parts [] = refl
strip-starts [] (part ∷ base) = refl
strip-starts (own ∷ parts) (part ∷ base) = step-starts (bytes_eq part own) (strip parts base)
    (starts_with bytes_eq parts base) (strip-starts parts base)

pub is_some-ends : (r : Option (Bor (List ℕ))) (none : Bool) (rest after : List (List ℕ))
    → is_some r ≡ not none → MatchOption r ((rest ≡ []) × (after ≡ []))
    (λ part. rest ≡ part.now ∷ after) → none ≡ is_all (Some rest)
is_some-ends None true rest after e h = rw h.0 refl
is_some-ends None false rest after e h = absurd cc
is_some-ends (Some part) true rest after e h = absurd cc
is_some-ends (Some part) false rest after e h = rw h refl

-- the test on two paths decides whether their components are the same
pub same_path-decides : (a b : List ℕ) (r : Bool) → r ≡ same_path a b
    → Decides r (components a ≡ components b)
unfolding same_path
same_path-decides a b r h = slice_eq-Decides bytes_eq-Decides (components a) (components b) r h
