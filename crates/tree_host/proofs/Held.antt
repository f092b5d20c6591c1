-- A hold more, and a hold less.
use Rattle.std.proofs.Common.{◌≡◌, ◌≢◌, ℕ, ◌+◌, ◌-◌, ◌<◌, ◌≤◌, Bool, true, false, cond, ◌||◌, refl}
use Rattle.std.proofs.Common.{sym, ap, ◌∙◌, subst, Some, None, Result, Ok, Err, OnOk, OnErr, ⊎_elim}
use Rattle.std.proofs.Common.{arith, IsSome, nat_lt, unwrap_or}
use Rattle.std.proofs.lemmas.Bool.{cases_eq, false≢true}
use Rattle.std.proofs.lemmas.Bool.Decides.{nat_tests}
use Rattle.std.specs.Ordering.{nat_cmp}
use Rattle.std.specs.FinMap.{get, insert, remove, empty, get-empty}
use Rattle.tree_model.specs.declared.attributes.Stamp.{Stamp}
use Rattle.tree_model.specs.declared.attributes.Limits.{Limits}
use Rattle.tree_model.specs.declared.attributes.TheConstants.{TOP}
use Rattle.tree_model.specs.Tree.{Tree, Records, is_linked, keep}
use Rattle.tree_model.specs.Good.{IsGoodTree}
use Rattle.tree_model.specs.Making.{new_tree, top_record}
use Rattle.tree_model.specs.Sound.{IsKeptBut, AreStored, swept}
use Rattle.tree_model.proofs.Maps.{inserted, insert_keeps, removed, remove_keeps, undone}
use Rattle.tree_model.proofs.Sweeping.{kept_is_swept}
use Rattle.tree_model.proofs.Keeping.{keep_kept, keep_stored}
use Rattle.tree_model.proofs.Files.{good_is_counted}
use Rattle.tree_host.specs.Holds.{Holds, hold_count, held_more, held_less, is_held}
use Rattle.tree_host.specs.Host.{IsHeldIn}

or_true : (b : Bool) → (b || true) ≡ true
or_true true = refl
or_true false = refl

is_held_some : (h : Holds) (i n : ℕ) → get h i ≡ Some n → 0 < n → is_held h i ≡ true
is_held_some h i n e more = rw e (grind (arith, nat_tests))

pub is_held_counted : (h : Holds) (i : ℕ) → 0 < hold_count h i → is_held h i ≡ true
is_held_counted h i more = grind (arith, nat_tests)

pub more_there : (h : Holds) (i q : ℕ) → q ≢ i → is_held (held_more h i) q ≡ is_held h q
more_there h i q ne = ap (λ o. nat_lt 0 (unwrap_or o 0))
    (insert_keeps h i (hold_count h i + 1) q ne)

less_by : (b : Bool) (h : Holds) (i q : ℕ) → q ≢ i
    → get (cond b (insert h i (hold_count h i - 1)) (remove h i)) q ≡ get h q
less_by true h i q ne = insert_keeps h i _ q ne
less_by false h i q ne = remove_keeps h i q ne

less_there : (h : Holds) (i q : ℕ) → q ≢ i → is_held (held_less h i) q ≡ is_held h q
less_there h i q ne = ap (λ o. nat_lt 0 (unwrap_or o 0))
    (less_by (nat_lt 1 (hold_count h i)) h i q ne)

abbrev pub ArePositive : Holds → Type 0
ArePositive h = (i n : ℕ) → get h i ≡ Some n → 0 < n

pub positive_insert : (h : Holds) (k v : ℕ) → 0 < v → ArePositive h → ArePositive (insert h k v)
positive_insert h k v more p i n at = ⊎_elim
    (λ eq. let one : Some v ≡ Some n = sym (inserted h k v)
    ∙ subst (λ j. get (insert h k v) j ≡ Some n) eq at in let same : v ≡ n =
    cc in subst (λ n. 0 < n) same more)
    (λ ne. p i n (sym (insert_keeps h k v i ne) ∙ at))
    (cases_eq i k)

positive_by : (b : Bool) (h : Holds) (k : ℕ) → nat_lt 1 (hold_count h k) ≡ b → ArePositive h
    → ArePositive (cond b (insert h k (hold_count h k - 1)) (remove h k))
positive_by true h k is p = positive_insert h k (hold_count h k - 1) (grind (arith, nat_tests)) p
positive_by false h k is p = λ i n at. ⊎_elim
    (λ eq. absurd (let none : get (remove h k) i ≡ None =
    subst (λ j. get (remove h k) j ≡ None) (sym eq) (removed h k) in cc))
    (λ ne. p i n (sym (remove_keeps h k i ne) ∙ at))
    (cases_eq i k)

-- a hold more of what is stored
pub more_held : (t : Tree) (h h' : Holds) (i : ℕ) → IsHeldIn t h → IsSome (get t.records i)
    → h' ≡ held_more h i → IsHeldIn t h'
more_held t h h' i s had e = subst (IsHeldIn t) (sym e) (record {
  kept = λ q stored. ⊎_elim
      (λ is. subst (λ j. (is_linked t.records j || is_held (held_more h i) j) ≡ true) (sym is)
      (ap (λ b. is_linked t.records i || b)
      (is_held_some (held_more h i) i (hold_count h i + 1) (inserted h i (hold_count h i + 1))
      (omega arith)) ∙ or_true (is_linked t.records i)))
      (λ ne. ap (λ b. is_linked t.records q || b) (more_there h i q ne) ∙ s.kept q stored)
      (cases_eq q i);
  stored = λ q held. ⊎_elim
      (λ is. subst (λ j. IsSome (get t.records j)) (sym is) had)
      (λ ne. s.stored q (sym (more_there h i q ne) ∙ held))
      (cases_eq q i);
  positive = positive_insert h i (hold_count h i + 1) (omega arith) s.positive;
})

-- the same where a hold may have found no memory
pub either_held : {A E : Type 0} (t : Tree) (h h' : Holds) (i : ℕ) → IsHeldIn t h
    → IsSome (get t.records i) → (r : Result A E) → OnOk r (h' ≡ held_more h i) → OnErr r (h' ≡ h)
    → IsHeldIn t h'
either_held t h h' i s had (Ok a) more same = more_held t h h' i s had more
either_held t h h' i s had (Err e) more same = subst (IsHeldIn t) (sym same) s

-- a hold less, and the record that no entry and no hold names then
module _ (t : Tree) (h h' : Holds) (i : ℕ) (g : IsGoodTree t) (s : IsHeldIn t h)
    (had : 0 < hold_count h i) (e : h' ≡ held_less h i) where
  less_same : (q : ℕ) → q ≢ i → is_held h' q ≡ is_held h q
  less_same q ne = ap (λ h. is_held h q) e ∙ less_there h i q ne

  less_stored : AreStored t.records (is_held h')
  less_stored q held = ⊎_elim
      (λ is. subst (λ j. IsSome (get t.records j)) (sym is) (s.stored i (is_held_counted h i had)))
      (λ ne. s.stored q (sym (less_same q ne) ∙ held))
      (cases_eq q i)

  less_kept : IsKeptBut t.records (is_held h') i
  less_kept q ne stored = ap (λ b. is_linked t.records q || b) (less_same q ne) ∙ s.kept q stored

  -- the sweep at the inode keeps what is linked or held
  pub less_tree : (rs : Records) → rs ≡ swept (is_held h') t.records i
      → rs ≡ (keep (is_held h') t).records
  less_tree rs is = is ∙ sym (kept_is_swept (good_is_counted t (is_held h') g less_stored) i
      less_kept)

  pub less_held : IsHeldIn (keep (is_held h') t) h'
  less_held = record {
    kept = keep_kept t g (is_held h');
    stored = keep_stored t g (is_held h') less_stored;
    positive = subst ArePositive (sym e) (positive_by (nat_lt 1 (hold_count h i)) h i refl
        s.positive);
  }

-- a new tree has no holds
pub new_held : (limits : Limits) (moment born : Stamp) (mode uid gid : ℕ)
    → IsHeldIn (new_tree limits moment born mode uid gid) empty
new_held limits moment born mode uid gid = record {
  kept = λ q had. ⊎_elim
      (λ is. subst (λ j. (is_linked (insert empty TOP (top_record born mode uid gid)) j || is_held
      empty j) ≡ true) (sym is) refl)
      (λ ne. absurd (false≢true (subst IsSome
      (insert_keeps empty TOP (top_record born mode uid gid) q ne ∙ get-empty nat_cmp q) had)))
      (cases_eq q TOP);
  stored = λ q held. absurd (false≢true (ap (λ o. nat_lt 0 (unwrap_or o 0))
      (sym (get-empty nat_cmp q)) ∙ held));
  positive = λ i n at. absurd (let none : get {X = ℕ} {R = nat_cmp} empty i ≡ None =
      get-empty nat_cmp i in cc);
}

-- ---- counts after a hold more or less

pub hold_count-more : (h : Holds) (i : ℕ) → hold_count (held_more h i) i ≡ hold_count h i + 1
hold_count-more h i = ap (λ o. unwrap_or o 0) (inserted h i (hold_count h i + 1))

less_count_by : (b : Bool) (h : Holds) (i : ℕ) → nat_lt 1 (hold_count h i) ≡ b
    → hold_count (cond b (insert h i (hold_count h i - 1)) (remove h i)) i ≡ hold_count h i - 1
less_count_by true h i is = ap (λ o. unwrap_or o 0) (inserted h i (hold_count h i - 1))
less_count_by false h i is = let none = ap (λ o. unwrap_or o 0) (removed h i) in let few :
    hold_count h i ≤ 1 = grind (arith, nat_tests) in omega arith

pub hold_count-less : (h : Holds) (i : ℕ) → hold_count (held_less h i) i ≡ hold_count h i - 1
hold_count-less h i = less_count_by (nat_lt 1 (hold_count h i)) h i refl

-- a first hold that is let go leaves none
pub less_more : (h : Holds) (i : ℕ) → get h i ≡ None → held_less (held_more h i) i ≡ h
less_more h i none =
    let one : hold_count (held_more h i) i ≡ 1 = hold_count-more h i
    ∙ ap (λ o. unwrap_or o 0 + 1) none in
    ap (λ n. cond (nat_lt 1 n) (insert (held_more h i) i (hold_count (held_more h i) i - 1))
    (remove (held_more h i) i)) one ∙ undone h i (hold_count h i + 1) none

pub hold_count-empty : (i : ℕ) → hold_count empty i ≡ 0
hold_count-empty i = ap (λ o. unwrap_or o 0) (get-empty nat_cmp i)

-- a hold more adds at most one to each count
pub hold_count-more_le : (h : Holds) (i q : ℕ) → hold_count (held_more h i) q ≤ hold_count h q + 1
hold_count-more_le h i q = ⊎_elim
    (λ is. subst (λ q. hold_count (held_more h i) q ≤ hold_count h q + 1) (sym is)
    (let one = hold_count-more h i in omega arith))
    (λ ne. let same : hold_count (held_more h i) q ≡ hold_count h q =
    ap (λ o. unwrap_or o 0) (insert_keeps h i (hold_count h i + 1) q ne) in omega arith)
    (cases_eq q i)
