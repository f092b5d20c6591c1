-- A good tree stays good where records go that are not linked.
use Rattle.std.proofs.Common.{◌≡◌, ℕ, zero, suc, ◌<◌, ◌≤◌, Bool, true, false, cond, ◌||◌, refl, sym}
use Rattle.std.proofs.Common.{ap, ◌∙◌, subst, Option, Some, None, ◌⊎◌, inl, inr, ⊎_elim, arith}
use Rattle.std.proofs.Common.{IsSome, nat_lt}
use Rattle.std.specs.Prelude.{◌==◌, option_map, IfSome}
use Rattle.std.proofs.Math.Logic.{∥∥₁_map}
use Rattle.std.proofs.lemmas.Bool.{cases_eq, false≢true}
use Rattle.std.proofs.lemmas.Bool.Decides.{nat_tests}
use Rattle.std.specs.FinMap.{get, retain_keys}
use Rattle.tree_model.specs.Tree.{Tree, Record, Records, TOP, is_directory_at, name_count, names_in}
use Rattle.tree_model.specs.Tree.{is_linked, count_names, weight, keep, linked}
use Rattle.tree_model.specs.Good.{IsAt, IsGoodTree, Climbs, links_of}
use Rattle.tree_model.specs.Sound.{IsKept, AreStored}
use Rattle.tree_model.proofs.Maps.{retained}
use Rattle.tree_model.proofs.Counting.{weigh-alike}
use Rattle.tree_model.proofs.Naming.{entry_is_counted}

-- what is named is linked
pub named_is_linked : (rs : Records) (i : ℕ) → 0 < name_count rs i → is_linked rs i ≡ true
named_is_linked rs i many = by_count (i == TOP) (name_count rs i) many where
  by_count : (b : Bool) (n : ℕ) → 0 < n → (b || nat_lt 0 n) ≡ true
  by_count true n more = refl
  by_count false n more = grind (arith, nat_tests)

-- the top, or a record that is stored, is where a climb goes on
pub climb_goes_on : (rs : Records) (n i : ℕ) → Climbs rs n i → (i ≡ TOP) ⊎ IsSome (get rs i)
climb_goes_on rs zero i c = inl c
climb_goes_on rs (suc n) i c = ⊎_elim (λ is. inl is) (λ s. inr (subst IsSome (sym s.4) refl)) c

module _ (t : Tree) (g : IsGoodTree t) where
  -- a directory that has an entry is linked
  pub above_is_linked : (i up : ℕ) → IfSome (get t.records up) (λ d. 1 ≤ names_in i d)
      → IsSome (get t.records up) → is_linked t.records up ≡ true
  above_is_linked i up names stored = by_record (get t.records up) refl names stored where
    by_link : (d : Record) → get t.records up ≡ Some d → 1 ≤ names_in i d → (b : Bool)
        → is_linked t.records up ≡ b → is_linked t.records up ≡ true
    by_link d at many true is = is
    by_link d at many false is = absurd (let none : names_in i d ≡ 0 =
        ap (count_names i) (g.emptied up d at is) in omega arith)

    by_record : (o : Option Record) → get t.records up ≡ o → IfSome o (λ d. 1 ≤ names_in i d)
        → IsSome o → is_linked t.records up ≡ true
    by_record None at many had = absurd (false≢true had)
    by_record (Some d) at many had = by_link d at many (is_linked t.records up) refl

module _ (t : Tree) (g : IsGoodTree t) (p : ℕ → Bool)
    (all : (i : ℕ) → is_linked t.records i ≡ true → p i ≡ true) where
  abbrev rs : Records
  rs = t.records

  abbrev left : Records
  left = retain_keys t.records p

  stays : (q : ℕ) → p q ≡ true → get left q ≡ get rs q
  stays q is = retained rs p q ∙ ap (λ b. cond b (get rs q) None) is

  goes : (q : ℕ) → p q ≡ false → get left q ≡ None
  goes q is = retained rs p q ∙ ap (λ b. cond b (get rs q) None) is

  was_at : (q : ℕ) (r : Record) → IsAt left q r → IsAt rs q r
  was_at q r at = by_test (p q) refl where
    by_test : (b : Bool) → p q ≡ b → IsAt rs q r
    by_test true is = sym (stays q is) ∙ at
    by_test false is = absurd (let none = goes q is in cc)

  unlinked_by : (q : ℕ) → p q ≡ false → (b : Bool) → is_linked rs q ≡ b → is_linked rs q ≡ false
  unlinked_by q out true is = absurd (false≢true (sym out ∙ all q is))
  unlinked_by q out false is = is

  lists_none : (i q : ℕ) → p q ≡ false → weight (names_in i) (get rs q) ≡ 0
  lists_none i q out = by_record (get rs q) refl where
    by_record : (o : Option Record) → get rs q ≡ o → weight (names_in i) o ≡ 0
    by_record None at = refl
    by_record (Some r) at = ap (count_names i)
        (g.emptied q r at (unlinked_by q out (is_linked rs q) refl))

  pub retained-name_count : (q : ℕ) → name_count left q ≡ name_count rs q
  retained-name_count i = weigh-alike (names_in i) left rs (λ q. by_test q (p q) refl) where
    by_test : (q : ℕ) (b : Bool) → p q ≡ b → weight (names_in i) (get left q) ≡ weight (names_in i)
        (get rs q)
    by_test q true is = ap (weight (names_in i)) (stays q is)
    by_test q false is = ap (weight (names_in i)) (goes q is) ∙ sym (lists_none i q is)

  pub retained-is_linked : (q : ℕ) → is_linked left q ≡ is_linked rs q
  retained-is_linked q = ap (λ n. (q == TOP) || nat_lt 0 n) (retained-name_count q)

  climbs_on : (n i : ℕ) → is_linked rs i ≡ true → Climbs rs n i → Climbs left n i
  climbs_on zero i live c = c
  climbs_on (suc n) i live c = ⊎_elim
      (λ is. inl is)
      (λ s. ⊎_elim
      (λ is. inl is)
      (λ ne.
      let higher : is_linked rs s.3 ≡ true = ⊎_elim
      (λ is. subst (λ k. is_linked rs k ≡ true) (sym is) refl)
      (λ had. above_is_linked t g i s.3 (g.above i s.0 s.1 s.2 s.3 s.4 s.5 live ne).1 had)
      (climb_goes_on rs n s.3 s.6) in
      inr (s.0, s.1, s.2, s.3, stays i (all i live) ∙ s.4, s.5, climbs_on n s.3 higher s.6))
      (cases_eq i TOP))
      c

  still_above : (i up : ℕ) → IfSome (get rs up) (λ d. 1 ≤ names_in i d)
      → IfSome (get left up) (λ d. 1 ≤ names_in i d)
  still_above i up had = by_test (p up) refl where
    by_test : (b : Bool) → p up ≡ b → IfSome (get left up) (λ d. 1 ≤ names_in i d)
    by_test true is = subst (λ o. IfSome o (λ d. 1 ≤ names_in i d)) (sym (stays up is)) had
    by_test false is = subst (λ o. IfSome o (λ d. 1 ≤ names_in i d)) (sym (goes up is)) tt

  was_linked : (q : ℕ) → is_linked left q ≡ true → is_linked rs q ≡ true
  was_linked q live = sym (retained-is_linked q) ∙ live

  pub good_retained : IsGoodTree (record t { records = left })
  good_retained = record {
    limits = g.limits;
    moment = g.moment;
    next = g.next;
    top_is_directory = ap (λ o. is_directory_at (option_map (λ (r : Record). r.body) o))
        (stays TOP (all TOP refl)) ∙ g.top_is_directory;
    numbers = λ i r at. g.numbers i r (was_at i r at);
    records = λ i r at. g.records i r (was_at i r at);
    entries = λ i r e at c.
        let many = entry_is_counted rs i r e (was_at i r at) c in
        let had = g.entries i r e (was_at i r at) c in
        (subst IsSome (sym (stays e.ino (all e.ino (named_is_linked rs e.ino many)))) had.0, had.1);
    links = λ i r at. g.links i r (was_at i r at)
        ∙ ap (λ n. links_of r.body n (is_linked rs i)) (sym (retained-name_count i))
        ∙ ap (links_of r.body (name_count left i)) (sym (retained-is_linked i));
    once = λ i r at directory. let le = g.once i r (was_at i r at) directory in let same =
        retained-name_count i in omega arith;
    above = λ i r es next up at is live ne.
        let had = g.above i r es next up (was_at i r at) is (was_linked i live) ne in
        let linked = above_is_linked t g i up had.1 had.0 in
        (subst IsSome (sym (stays up (all up linked))) had.0, still_above i up had.1);
    top_above = λ r es next up at is. g.top_above r es next up (was_at TOP r at) is;
    climbs = λ i r at directory live. ∥∥₁_map
        (g.climbs i r (was_at i r at) directory (was_linked i live))
        (λ c. (c.0, climbs_on c.0 i (was_linked i live) c.1));
    emptied = λ i r at out. g.emptied i r (was_at i r at) (sym (retained-is_linked i) ∙ out);
  }

-- what is kept of a good tree is good
pub keep_good : (t : Tree) → IsGoodTree t → (held : ℕ → Bool) → IsGoodTree (keep held t)
keep_good t g held = good_retained t g (λ i. is_linked t.records i || held i)
    (λ i live. ap (λ b. b || held i) live)

pub linked_good : (t : Tree) → IsGoodTree t → IsGoodTree (linked t)
linked_good t g = good_retained t g (is_linked t.records) (λ i live. live)

-- of what is kept each is linked or held
pub keep_kept : (t : Tree) → IsGoodTree t → (held : ℕ → Bool) → IsKept (keep held t).records held
keep_kept t g held q had = by_test (is_linked t.records q || held q) refl where
  by_test : (b : Bool) → (is_linked t.records q || held q) ≡ b
      → (is_linked (keep held t).records q || held q) ≡ true
  by_test true is = ap (λ b. b || held q) (retained-is_linked t g
      (λ i. is_linked t.records i || held i) (λ i live. ap (λ b. b || held i) live) q) ∙ is
  by_test false is = absurd (false≢true (subst IsSome
      (goes t g (λ i. is_linked t.records i || held i) (λ i live. ap (λ b. b || held i) live) q is)
      had))

or_right : (a b : Bool) → b ≡ true → (a || b) ≡ true
or_right true b is = refl
or_right false b is = is

-- what is held stays
pub keep_stored : (t : Tree) → IsGoodTree t → (held : ℕ → Bool) → AreStored t.records held
    → AreStored (keep held t).records held
keep_stored t g held s q h = subst IsSome (sym
    (stays t g (λ i. is_linked t.records i || held i) (λ i live. ap (λ b. b || held i) live) q
    (or_right (is_linked t.records q) (held q) h))) (s q h)
