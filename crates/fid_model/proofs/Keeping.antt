-- What `keep` leaves: all of a tree whose records are linked or held; and keeping twice is keeping
-- what the second time keeps.
use Rattle.std.proofs.Common.{◌≡◌, ℕ, Bool, true, false, cond, ◌||◌, [], refl, sym, ap, ◌∙◌, Option}
use Rattle.std.proofs.Common.{Some, None, IsSome, nat_lt}
use Rattle.std.specs.Prelude.{◌==◌}
use Rattle.std.proofs.lemmas.Bool.{false≢true}
use Rattle.std.specs.FinMap.{get, retain_keys}
use Rattle.tree_model.specs.declared.attributes.TheConstants.{TOP}
use Rattle.tree_model.specs.Tree.{Tree, Record, Records, is_linked, name_count, names_in}
use Rattle.tree_model.specs.Tree.{count_names, listed, weight, keep}
use Rattle.tree_model.specs.Good.{IsGoodTree}
use Rattle.tree_model.specs.Sound.{IsKept}
use Rattle.tree_model.proofs.Maps.{retained, same_gets}
use Rattle.tree_model.proofs.Counting.{weigh-alike}
use Rattle.fid_model.specs.Fids.{ServerState, is_held, kept_state, IsGoodServer}

passes : (b : Bool) (o : Option Record) → (IsSome o → b ≡ true) → cond b o None ≡ o
passes true o h = refl
passes false None h = refl
passes false (Some r) h = absurd (false≢true (h refl))

kept_all : (rs : Records) (held : ℕ → Bool) → IsKept rs held
    → retain_keys rs (λ i. is_linked rs i || held i) ≡ rs
kept_all rs held kept = same_gets _ _ (λ q. retained rs (λ i. is_linked rs i || held i) q
    ∙ passes (is_linked rs q || held q) (get rs q) (kept q))

-- nothing goes where each record is linked or held
pub keep_same : (t : Tree) (held : ℕ → Bool) → IsKept t.records held → keep held t ≡ t
keep_same t held kept = ap (λ (rs : Records). let u : Tree = record t { records = rs } in u)
    (kept_all t.records held kept)

-- what is kept depends on the answers of the test alone
pub keep_alike : (t : Tree) (held other : ℕ → Bool) → ((i : ℕ) → held i ≡ other i)
    → keep held t ≡ keep other t
keep_alike t held other same = λ j. keep (λ i. same i j) t

-- the state as it is with other fids, where nothing has to go
pub kept_state_kept : (s : ServerState) → IsKept s.tree.records (is_held s.fids) → kept_state s ≡ s
kept_state_kept s kept = ap (λ (t : Tree). let u : ServerState = record s { tree = t } in u)
    (keep_same s.tree (is_held s.fids) kept)

pub kept_state_good : (s : ServerState) → IsGoodServer s → kept_state s ≡ s
kept_state_good s good = kept_state_kept s good.kept

-- ---- twice

-- a record that goes names nothing
gone_names : (b : Bool) (q : ℕ) (o : Option Record)
    → (b ≡ false → (r : Record) → o ≡ Some r → listed r.body ≡ [])
    → weight (names_in q) (cond b o None) ≡ weight (names_in q) o
gone_names true q o h = refl
gone_names false q None h = refl
gone_names false q (Some r) h = sym (ap (count_names q) (h refl r refl))

or_false : (a b : Bool) → (a || b) ≡ false → a ≡ false
or_false true b h = h
or_false false b h = refl

module _ (t : Tree) (good : IsGoodTree t) (held : ℕ → Bool) where
  same_names : (q : ℕ) → name_count (keep held t).records q ≡ name_count t.records q
  same_names q = weigh-alike (names_in q) _ _ (λ i.
      ap (weight (names_in q)) (retained t.records (λ i. is_linked t.records i || held i) i)
      ∙ gone_names (is_linked t.records i || held i) q (get t.records i)
      (λ free r at. good.emptied i r at (or_false _ _ free)))

  same_linked : (q : ℕ) → is_linked (keep held t).records q ≡ is_linked t.records q
  same_linked q = ap (λ n. (q == TOP) || nat_lt 0 n) (same_names q)

  cond_twice : (a b : Bool) (o : Option Record) → (b ≡ true → a ≡ true)
      → cond b (cond a o None) None ≡ cond b o None
  cond_twice a true o h = ap (λ c. cond c o None) (h refl)
  cond_twice a false o h = refl

  or_more : (a b c : Bool) → (c ≡ true → b ≡ true) → (a || c) ≡ true → (a || b) ≡ true
  or_more true b c h e = refl
  or_more false b c h e = h e

  -- what is kept of what was kept for more is what is kept at once
  pub keep_twice : (less : ℕ → Bool) → ((i : ℕ) → less i ≡ true → held i ≡ true)
      → keep less (keep held t) ≡ keep less t
  keep_twice less below = ap (λ (rs : Records). let u : Tree = record t { records = rs } in u)
      (same_gets _ _ (λ q.
      retained (keep held t).records (λ i. is_linked (keep held t).records i || less i) q
      ∙ ap (λ b. cond (b || less q) (get (keep held t).records q) None) (same_linked q)
      ∙ ap (λ o. cond (is_linked t.records q || less q) o None)
      (retained t.records (λ i. is_linked t.records i || held i) q)
      ∙ cond_twice (is_linked t.records q || held q) (is_linked t.records q || less q)
      (get t.records q) (or_more (is_linked t.records q) (held q) (less q) (below q))
      ∙ sym (retained t.records (λ i. is_linked t.records i || less i) q)))
