-- Answers made of answers: each is the fact, or a fault was counted.
use Rattle.std.proofs.Common.{◌≡◌, ◌∙◌, ◌++◌, ℕ, List, Option, Some, None, ap, subst, arith, inl}
use Rattle.std.proofs.Common.{inr}
use Rattle.std.proofs.Common.{append_assoc, refl}
use Rattle.std.specs.Prelude.{◌⊎◌}
use Rattle.libmount.specs.Mounters.{Calls, FaultedIn}
use Rattle.libmount.specs.Probes.{Explains, Facts, IsFact, Tells, ToldBy}

-- one fault, and whatever follows it
faulted_then : (a b c : Calls) → FaultedIn a b → c ≡ b → FaultedIn a c
faulted_then a b c f same = rw same f

faulted_twice : (a b c : Calls) → FaultedIn a b → FaultedIn b c → FaultedIn a c
faulted_twice a b c f g = ((omega (arith, f.0.0, g.0.0), omega (arith, f.0.1, g.0.0)), f.1, g.2)

same_then : (a b c : Calls) → b ≡ a → FaultedIn b c → FaultedIn a c
same_then a b c same f = rw (← same) f

pub explains_told : {A : Type 0} (facts : Option Facts) (view : Facts → A) (fault answer : A)
    (old new : Calls) → ToldBy facts view fault answer old new → Explains facts view answer old new
explains_told facts view fault answer old new told = record
    { answered = by_case told.answered } where
      by_case : (IsFact facts view answer × (new ≡ old)) ⊎ ((answer ≡ fault) × FaultedIn old new)
          → (IsFact facts view answer × (new ≡ old)) ⊎ FaultedIn old new
      by_case (inl fact) = inl fact
      by_case (inr fault) = inr fault.1

both_facts : {A B C : Type 0} (facts : Option Facts) (f : Facts → A) (g : Facts → B)
    (join : A → B → C) (a : A) (b : B) → IsFact facts f a → IsFact facts g b
    → IsFact facts (λ w. join (f w) (g w)) (join a b)
both_facts None f g join a b p q = tt
both_facts (Some w) f g join a b p q = λ j. join (p j) (q j)

-- two answers one after the other, joined
pub explains_both : {A B C : Type 0} (facts later : Option Facts) (f : Facts → A) (g : Facts → B)
    (join : A → B → C) (a : A) (b : B) (x y z : Calls) →
    later ≡ facts → Explains facts f a x y → Explains later g b y z
    → Explains facts (λ w. join (f w) (g w)) (join a b) x z
explains_both {A} {B} {C} facts later f g join a b x y z same first second =
    record {
      answered = by_case first.answered
          (subst (λ w. Explains w g b y z) same second).answered;
    } where
      by_case : (IsFact facts f a × (y ≡ x)) ⊎ FaultedIn x y → (IsFact facts g b × (z ≡ y))
          ⊎ FaultedIn y z →
          (IsFact facts (λ w. join (f w) (g w)) (join a b) × (z ≡ x)) ⊎ FaultedIn x z
      by_case (inl p) (inl q) = inl (both_facts facts f g join a b p.0 q.0, q.1 ∙ p.1)
      by_case (inl p) (inr q) = inr (same_then x y z p.1 q)
      by_case (inr p) (inl q) = inr (faulted_then x y z p q.1)
      by_case (inr p) (inr q) = inr (faulted_twice x y z p q)

seen_fact : {A B : Type 0} (facts : Option Facts) (f : Facts → A) (see : A → B) (a : A)
    → IsFact facts f a → IsFact facts (λ w. see (f w)) (see a)
seen_fact None f see a p = tt
seen_fact (Some w) f see a p = ap see p

-- an answer seen by a view
pub explains_seen : {A B : Type 0} (facts : Option Facts) (f : Facts → A) (see : A → B) (a : A)
    (b : B) (x y : Calls) → b ≡ see a → Explains facts f a x y
    → Explains facts (λ w. see (f w)) b x y
explains_seen {A} {B} facts f see a b x y is told = record
    { answered = by_case told.answered } where
      by_case : (IsFact facts f a × (y ≡ x)) ⊎ FaultedIn x y
          → (IsFact facts (λ w. see (f w)) b × (y ≡ x)) ⊎ FaultedIn x y
      by_case (inl p) = inl (rw is (seen_fact facts f see a p.0), p.1)
      by_case (inr p) = inr p

grown : (facts : Option Facts) (s t : Facts → List ℕ) (before mid after : List ℕ)
    → IsFact facts (λ w. before ++ s w) mid → IsFact facts (λ w. mid ++ t w) after
    → IsFact facts (λ w. before ++ (s w ++ t w)) after
grown None s t before mid after p q = tt
grown (Some w) s t before mid after p q =
    q ∙ (ap (λ x. x ++ t w) p ∙ append_assoc before (s w) (t w))

-- a text that grows twice
pub tells_twice : (facts later : Option Facts) (s t : Facts → List ℕ) (before mid after : List ℕ)
    (x y z : Calls) → later ≡ facts → Tells facts s before mid x y → Tells later t mid after y z
    → Tells facts (λ w. s w ++ t w) before after x z
tells_twice facts later s t before mid after x y z same first second =
    record {
      answered = by_case first.answered
          (subst (λ w. Tells w t mid after y z) same second).answered;
    } where
      by_case : (IsFact facts (λ w. before ++ s w) mid × (y ≡ x)) ⊎ FaultedIn x y
          → (IsFact facts (λ w. mid ++ t w) after × (z ≡ y)) ⊎ FaultedIn y z →
          (IsFact facts (λ w. before ++ (s w ++ t w)) after × (z ≡ x)) ⊎ FaultedIn x z
      by_case (inl p) (inl q) = inl (grown facts s t before mid after p.0 q.0, q.1 ∙ p.1)
      by_case (inl p) (inr q) = inr (same_then x y z p.1 q)
      by_case (inr p) (inl q) = inr (faulted_then x y z p q.1)
      by_case (inr p) (inr q) = inr (faulted_twice x y z p q)

seen_text : (facts : Option Facts) (s : Facts → List ℕ) (text before after : List ℕ)
    → after ≡ before ++ text → IsFact facts s text → IsFact facts (λ w. before ++ s w) after
seen_text None s text before after is p = tt
seen_text (Some w) s text before after is p = is ∙ ap (λ x. before ++ x) p

-- a text that grows by an answer
pub tells_answer : (facts : Option Facts) (s : Facts → List ℕ) (text before after : List ℕ)
    (x y : Calls) → after ≡ before ++ text → Explains facts s text x y
    → Tells facts s before after x y
tells_answer facts s text before after x y is told = record
    { answered = by_case told.answered } where
      by_case : (IsFact facts s text × (y ≡ x)) ⊎ FaultedIn x y
          → (IsFact facts (λ w. before ++ s w) after × (y ≡ x)) ⊎ FaultedIn x y
      by_case (inl p) = inl (seen_text facts s text before after is p.0, p.1)
      by_case (inr p) = inr p

always_fact : {A : Type 0} (facts : Option Facts) (a : A) → IsFact facts (λ w. a) a
always_fact None a = tt
always_fact (Some w) a = refl

-- a text that grows by what needs no answer
pub tells_always : (facts : Option Facts) (text before after : List ℕ) (x : Calls)
    → after ≡ before ++ text → Tells facts (λ w. text) before after x x
tells_always facts text before after x is =
    tells_answer facts (λ w. text) text before after x x is
    (record { answered = inl (always_fact facts text, refl) })

-- the same text by another definition
pub tells_as : (facts : Option Facts) (s t : Facts → List ℕ) (before after : List ℕ) (x y : Calls)
    → ((w : Facts) → s w ≡ t w) → Tells facts s before after x y → Tells facts t before after x y
tells_as facts s t before after x y same told = record { answered = by_case told.answered } where
  by_fact : (f : Option Facts) → IsFact f (λ w. before ++ s w) after
      → IsFact f (λ w. before ++ t w) after
  by_fact None p = tt
  by_fact (Some w) p = p ∙ ap (λ u. before ++ u) (same w)

  by_case : (IsFact facts (λ w. before ++ s w) after × (y ≡ x)) ⊎ FaultedIn x y
      → (IsFact facts (λ w. before ++ t w) after × (y ≡ x)) ⊎ FaultedIn x y
  by_case (inl p) = inl (by_fact facts p.0, p.1)
  by_case (inr p) = inr p
