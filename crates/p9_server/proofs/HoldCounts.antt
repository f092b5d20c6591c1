-- Holds that come and go, by their counts; and trees that stay where holds come and go.
use Rattle.std.proofs.Common.{◌≡◌, ◌≢◌, ℕ, ◌+◌, ◌-◌, ◌<◌, ◌≤◌, Bool, true, false, cond, ◌||◌, refl}
use Rattle.std.proofs.Common.{sym, ap, ◌∙◌, subst, Some, ⊎_elim, arith, nat_lt, unwrap_or}
use Rattle.std.specs.Prelude.{◌==◌}
use Rattle.std.proofs.lemmas.Bool.{cases_eq}
use Rattle.std.proofs.lemmas.Bool.Decides.{nat_tests}
use Rattle.std.specs.FinMap.{get, insert, remove}
use Rattle.tree_model.specs.Tree.{Tree, keep, is_linked}
use Rattle.tree_model.specs.Sound.{IsKept, AreStored}
use Rattle.tree_model.proofs.Maps.{inserted, insert_keeps, removed, remove_keeps}
use Rattle.tree_host.specs.Holds.{Holds, hold_count, held_more, held_less, is_held}
use Rattle.fid_model.specs.Fids.{Fids, is_held as is_named}
use Rattle.fid_model.proofs.Keeping.{keep_same, keep_alike}
use Rattle.p9_server.specs.Holding.{AreFids, IsMore}

own : (i q n m : ℕ) → q ≡ i → n ≡ m + 1 → n ≡ m + cond (i == q) 1 0
own i q n m is e = grind (arith, nat_tests)

other : (i q n m : ℕ) → q ≢ i → n ≡ m → n ≡ m + cond (i == q) 1 0
other i q n m ne e = grind (arith, nat_tests)

count_at : (h : Holds) (i n : ℕ) → get h i ≡ Some n → hold_count h i ≡ n
count_at h i n at = ap (λ o. unwrap_or o 0) at

-- one hold more
pub more_counts : (h : Holds) (i : ℕ) → IsMore h (held_more h i) i
more_counts h i = record {
  counts = λ q. ⊎_elim
      (λ is. own i q (hold_count (held_more h i) q) (hold_count h q) is
      (ap (hold_count (held_more h i)) is
      ∙ count_at (held_more h i) i _ (inserted h i (hold_count h i + 1))
      ∙ ap (λ j. hold_count h j + 1) (sym is)))
      (λ ne. other i q (hold_count (held_more h i) q) (hold_count h q) ne
      (ap (λ o. unwrap_or o 0) (insert_keeps h i (hold_count h i + 1) q ne)))
      (cases_eq q i);
}

less_at : (b : Bool) (h : Holds) (i : ℕ) → 0 < hold_count h i → nat_lt 1 (hold_count h i) ≡ b
    → hold_count h i ≡ hold_count (cond b (insert h i (hold_count h i - 1)) (remove h i)) i + 1
less_at true h i some is = let here = count_at (insert h i (hold_count h i - 1)) i _
    (inserted h i (hold_count h i - 1)) in omega arith
less_at false h i some is = let here : hold_count (remove h i) i ≡ 0 =
    ap (λ o. unwrap_or o 0) (removed h i) in let one : hold_count h i ≤ 1 =
    grind (arith, nat_tests) in omega arith

less_there : (b : Bool) (h : Holds) (i q : ℕ) → q ≢ i
    → hold_count h q ≡ hold_count (cond b (insert h i (hold_count h i - 1)) (remove h i)) q
less_there true h i q ne = sym (ap (λ o. unwrap_or o 0) (insert_keeps h i _ q ne))
less_there false h i q ne = sym (ap (λ o. unwrap_or o 0) (remove_keeps h i q ne))

-- one hold less
pub less_counts : (h : Holds) (i : ℕ) → 0 < hold_count h i → IsMore (held_less h i) h i
less_counts h i some = record {
  counts = λ q. ⊎_elim
      (λ is. own i q (hold_count h q) (hold_count (held_less h i) q) is
      (ap (hold_count h) is ∙ less_at (nat_lt 1 (hold_count h i)) h i some refl
      ∙ ap (λ j. hold_count (held_less h i) j + 1) (sym is)))
      (λ ne. other i q (hold_count h q) (hold_count (held_less h i) q) ne
      (less_there (nat_lt 1 (hold_count h i)) h i q ne))
      (cases_eq q i);
}

pub less_counts_of : (h h' : Holds) (i : ℕ) → 0 < hold_count h i → h' ≡ held_less h i
    → IsMore h' h i
less_counts_of h h' i some is = subst (λ (k : Holds). IsMore k h i) (sym is) (less_counts h i some)

pub more_counts_of : (h h' : Holds) (i : ℕ) → h' ≡ held_more h i → IsMore h h' i
more_counts_of h h' i is = subst (λ (k : Holds). IsMore h k i) (sym is) (more_counts h i)

-- what is held more is held
pub more_held : (h h' : Holds) (i : ℕ) → IsMore h h' i → 0 < hold_count h' i
more_held h h' i more = let here = more.counts i in grind (arith, nat_tests)

still_held : (n m : ℕ) → n ≤ m → nat_lt 0 n ≡ true → nat_lt 0 m ≡ true
still_held n m le e = grind (arith, nat_tests)

or_more : (a b c : Bool) → (b ≡ true → c ≡ true) → (a || b) ≡ true → (a || c) ≡ true
or_more true b c h e = refl
or_more false b c h e = h e

-- what was linked or held is so with more holds
pub kept_more : (t : Tree) (h h' : Holds) → IsKept t.records (is_held h)
    → ((i : ℕ) → hold_count h i ≤ hold_count h' i) → IsKept t.records (is_held h')
kept_more t h h' kept le i stored = or_more (is_linked t.records i) (is_held h i) (is_held h' i)
    (still_held (hold_count h i) (hold_count h' i) (le i)) (kept i stored)

-- a tree stays where no inode has fewer holds than when all its records were linked or held
pub keep_stays : (t : Tree) (h h' : Holds) → IsKept t.records (is_held h)
    → ((i : ℕ) → hold_count h i ≤ hold_count h' i) → keep (is_held h') t ≡ t
keep_stays t h h' kept le = keep_same t (is_held h') (kept_more t h h' kept le)

-- ---- holds that are those of fids

module _ (h : Holds) (fids : Fids) (same : AreFids h fids) where
  held_is_named : (i : ℕ) → is_held h i ≡ is_named fids i
  held_is_named i = ap (nat_lt 0) (same i)

  pub keep_named : (t : Tree) → keep (is_held h) t ≡ keep (is_named fids) t
  keep_named t = keep_alike t (is_held h) (is_named fids) held_is_named

  pub kept_named : (t : Tree) → IsKept t.records (is_held h) → IsKept t.records (is_named fids)
  kept_named t kept i stored = ap (λ b. is_linked t.records i || b) (sym (held_is_named i))
      ∙ kept i stored

  pub stored_named : (t : Tree) → AreStored t.records (is_held h)
      → AreStored t.records (is_named fids)
  stored_named t stored i named = stored i (held_is_named i ∙ named)
