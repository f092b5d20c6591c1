-- A climb that comes to the top has fewer steps than there are numbers: its inodes are stored, and
-- no two are one.
use Rattle.std.proofs.Common.{◌≡◌, ℕ, zero, suc, ◌+◌, ◌-◌, ◌<◌, ◌≤◌, Bool, true, false, cond, ◌||◌}
use Rattle.std.proofs.Common.{List, [], ◌∷◌, length, refl, sym, ap, ◌∙◌, subst, Option, Some, None}
use Rattle.std.proofs.Common.{arith, IsSome, unwrap_or}
use Rattle.std.specs.Prelude.{◌==◌, option_map}
use Rattle.std.specs.List.{list_any, AllByRecursion, IsDistinct}
use Rattle.std.proofs.lemmas.Bool.{false≢true}
use Rattle.std.proofs.lemmas.Bool.Decides.{nat_tests}
use Rattle.std.proofs.lemmas.Map.Steps.{length-le_from_distinct_below}
use Rattle.std.specs.FinMap.{get}
use Rattle.tree_model.specs.Tree.{Tree, Record, Records, TOP, is_directory_at}
use Rattle.tree_model.specs.Good.{IsGoodTree}
use Rattle.tree_model.specs.Reading.{above}
use Rattle.tree_model.specs.Renaming.{above_at, climbs_past}

all_map : {P Q : ℕ → Type 0} → ((x : ℕ) → P x → Q x) → (xs : List ℕ) → AllByRecursion P xs
    → AllByRecursion Q xs
all_map f [] all = tt
all_map f (x ∷ xs) all = (f x all.0, all_map f xs all.1)

any_of : (P : ℕ → Type 0) (xs : List ℕ) → AllByRecursion P xs → (q : ℕ)
    → list_any (λ x. q == x) xs ≡ true → P q
any_of P [] all q is = absurd (false≢true is)
any_of P (x ∷ xs) all q is = by_test (q == x) refl is (λ is. any_of P xs all.1 q is) where
  by_test : (b : Bool) → (q == x) ≡ b → (b || list_any (λ x. q == x) xs) ≡ true
      → (list_any (λ x. q == x) xs ≡ true → P q) → P q
  by_test true here is later = subst P (let same : x ≡ q = grind (arith, nat_tests) in same) all.0
  by_test false here is later = later is

module _ (t : Tree) (g : IsGoodTree t) (ino : ℕ) where
  abbrev rs : Records
  rs = t.records

  abbrev past : ℕ → ℕ → Bool
  past k i = climbs_past rs ino k i

  -- ---- nothing stands at 0, and nothing climbs from there

  above_none : (i : ℕ) → get rs i ≡ None → above_at rs i ≡ 0
  above_none i none = ap (λ o. unwrap_or (option_map above (option_map (λ (r : Record). r.body) o))
      0) none

  none_at_zero : get rs 0 ≡ None
  none_at_zero = by_record (get rs 0) refl where
    by_record : (o : Option Record) → get rs 0 ≡ o → get rs 0 ≡ None
    by_record None at = at
    by_record (Some r) at = absurd (let low = (g.numbers 0 r at).0 in omega arith)

  never_from_zero : (k : ℕ) → past k 0 ≡ false
  never_from_zero zero = refl
  never_from_zero (suc k) = by_test (0 == ino) (never_from_zero k) where
    by_test : (b : Bool) → past k 0 ≡ false → cond b false (past k (above_at rs 0)) ≡ false
    by_test true later = refl
    by_test false later = ap (past k) (above_none 0 none_at_zero) ∙ later

  top_stored : IsSome (get rs TOP)
  top_stored = by_record (get rs TOP) refl where
    by_record : (o : Option Record) → get rs TOP ≡ o → IsSome (get rs TOP)
    by_record None at = absurd (false≢true (subst
        (λ o. is_directory_at (option_map (λ (r : Record). r.body) o) ≡ true) at
        g.top_is_directory))
    by_record (Some r) at = subst IsSome (sym at) refl

  -- what climbs is stored
  climbs_stored : (k i : ℕ) → past (suc k) i ≡ true → IsSome (get rs i)
  climbs_stored k i is = by_record (get rs i) refl where
    by_tests : get rs i ≡ None → (b c : Bool) → (i == TOP) ≡ c
        → cond b false (cond c true (past k (above_at rs i))) ≡ true → IsSome (get rs i)
    by_tests none true c high is = absurd (false≢true is)
    by_tests none false true high is = subst (λ i. IsSome (get rs i))
        (let same : TOP ≡ i = grind (arith, nat_tests) in same) top_stored
    by_tests none false false high is = absurd
        (false≢true (sym (never_from_zero k) ∙ sym (ap (past k) (above_none i none)) ∙ is))

    by_record : (o : Option Record) → get rs i ≡ o → IsSome (get rs i)
    by_record None at = by_tests at (i == ino) (i == TOP) refl is
    by_record (Some r) at = subst IsSome (sym at) refl

  climbs_below : (k i : ℕ) → past (suc k) i ≡ true → i < t.next
  climbs_below k i is = by_record (get rs i) refl (climbs_stored k i is) where
    by_record : (o : Option Record) → get rs i ≡ o → IsSome (get rs i) → i < t.next
    by_record None at had = absurd (false≢true (subst IsSome at had))
    by_record (Some r) at had = (g.numbers i r at).1

  -- ---- more steps climb as well

  one_more : (k i : ℕ) → past k i ≡ true → past (suc k) i ≡ true
  one_more zero i is = absurd (false≢true is)
  one_more (suc k) i is = by_tests (i == ino) (i == TOP) is
      (λ is. one_more k (above_at rs i) is) where
        by_tests : (b c : Bool) → cond b false (cond c true (past k (above_at rs i))) ≡ true
            → (past k (above_at rs i) ≡ true → past (suc k) (above_at rs i) ≡ true)
            → cond b false (cond c true (past (suc k) (above_at rs i))) ≡ true
        by_tests true c is later = absurd (false≢true is)
        by_tests false true is later = refl
        by_tests false false is later = later is

  many_more : (d k i : ℕ) → past k i ≡ true → past (k + d) i ≡ true
  many_more zero k i is = subst (λ n. past n i ≡ true) (let same : k ≡ k + 0 = omega arith in same)
      is
  many_more (suc d) k i is = subst (λ n. past n i ≡ true)
      (let same : suc (k + d) ≡ k + suc d = omega arith in same)
      (one_more (k + d) i (many_more d k i is))

  up_to : (k n i : ℕ) → k ≤ n → past k i ≡ true → past n i ≡ true
  up_to k n i le is = subst (λ n. past n i ≡ true)
      (let same : k + (n - k) ≡ n = omega arith in same) (many_more (n - k) k i is)

  -- ---- the shortest climb

  -- it takes one step more than k, and no fewer
  abbrev IsLeast : ℕ → ℕ → Type 0
  IsLeast k i = (past (suc k) i ≡ true) × (past k i ≡ false)

  least_of : (k i : ℕ) → past k i ≡ true → (n : ℕ) × IsLeast n i
  least_of zero i is = absurd (false≢true is)
  least_of (suc k) i is = by_test (past k i) refl (λ is. least_of k i is) where
    by_test : (b : Bool) → past k i ≡ b → (past k i ≡ true → (n : ℕ) × IsLeast n i) → (n : ℕ)
        × IsLeast n i
    by_test true less later = later less
    by_test false less later = (k, (is, less))

  least_above : (k i : ℕ) → IsLeast (suc k) i → IsLeast k (above_at rs i)
  least_above k i least = by_tests (i == ino) (i == TOP) least.0 least.1 where
    by_tests : (b c : Bool) → cond b false (cond c true (past (suc k) (above_at rs i))) ≡ true
        → cond b false (cond c true (past k (above_at rs i))) ≡ false → IsLeast k (above_at rs i)
    by_tests true c is less = absurd (false≢true is)
    by_tests false true is less = absurd (false≢true (sym less))
    by_tests false false is less = (is, less)

  -- its inodes
  abbrev nodes : ℕ → ℕ → List ℕ
  nodes zero i = i ∷ []
  nodes (suc k) i = i ∷ nodes k (above_at rs i)

  nodes-length : (k i : ℕ) → length (nodes k i) ≡ suc k
  nodes-length zero i = refl
  nodes-length (suc k) i = ap suc (nodes-length k (above_at rs i))

  nodes_climb : (k i : ℕ) → IsLeast k i → AllByRecursion (λ y. past (suc k) y ≡ true) (nodes k i)
  nodes_climb zero i least = (least.0, tt)
  nodes_climb (suc k) i least = (
    least.0,
    all_map (λ y is. one_more (suc k) y is)
        (nodes k (above_at rs i)) (nodes_climb k (above_at rs i) (least_above k i least)),
  )

  differ : (k i y : ℕ) → past k i ≡ false → past k y ≡ true → (i == y) ≡ false
  differ k i y less is = by_test (i == y) refl where
    by_test : (b : Bool) → (i == y) ≡ b → b ≡ false
    by_test true here = absurd (false≢true (sym less
        ∙ ap (past k) (let same : i ≡ y = grind (arith, nat_tests) in same) ∙ is))
    by_test false here = refl

  nodes_differ : (k i : ℕ) → IsLeast k i → IsDistinct (λ x y. x == y) (nodes k i)
  unfolding IsDistinct
  nodes_differ zero i least = (tt, tt)
  nodes_differ (suc k) i least =
      let above = least_above k i least in (
        all_map (λ y is. differ (suc k) i y least.1 is) (nodes k (above_at rs i))
            (nodes_climb k (above_at rs i) above),
        nodes_differ k (above_at rs i) above,
      )

  short : (k i : ℕ) → IsLeast k i → suc k ≤ t.next
  short k i least =
      let below = all_map (λ y is. climbs_below k y is) (nodes k i) (nodes_climb k i least) in
      let few = length-le_from_distinct_below (nodes k i) t.next (nodes_differ k i least)
      (λ q is. any_of (λ y. y < t.next) (nodes k i) below q is) in
      let size = nodes-length k i in
      omega arith

  -- so many steps are enough
  pub enough_steps : (k i : ℕ) → past k i ≡ true → past t.next i ≡ true
  enough_steps k i is = let least = least_of k i is in up_to (suc least.0) t.next i
      (short least.0 i least.1) least.1.0
