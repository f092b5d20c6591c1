-- All fids go, one at a time.
use Rattle.std.proofs.Common.{◌≡◌, ℕ, ◌+◌, ◌-◌, ◌<◌, true, cond, refl, sym, ap, ◌∙◌, Option, Some}
use Rattle.std.proofs.Common.{None, arith}
use Rattle.std.specs.Prelude.{nat_lt, is_some, unwrap_or}
use Rattle.std.proofs.lemmas.Bool.Decides.{nat_tests}
use Rattle.std.specs.Ordering.{nat_cmp}
use Rattle.std.specs.Cmp.{nat_cmp_total}
use Rattle.std.specs.FinMap.{get, remove, len, len-remove, len-empty, get-empty, contains_key}
use Rattle.std.specs.FinMap.{empty}
use Rattle.tree_model.specs.Tree.{Tree, keep}
use Rattle.tree_model.specs.Good.{IsGoodTree}
use Rattle.tree_model.specs.Sound.{IsKept}
use Rattle.tree_model.proofs.Maps.{same_gets}
use Rattle.tree_host.specs.Holds.{Holds, hold_count, held_less, is_held}
use Rattle.fid_model.specs.Fids.{Fids, Fid, fid_weight, fid_count, is_held as is_named}
use Rattle.fid_model.proofs.FidCounts.{fid_count-gone, fid_count-named, fid_count-few}
use Rattle.fid_model.proofs.Keeping.{keep_same, keep_twice}
use Rattle.p9_server.specs.Holding.{AreFids}
use Rattle.p9_server.proofs.HoldCounts.{less_counts_of, keep_named, kept_named}

-- the tree as the fids that are left keep it
pub record Releasing (t0 t : Tree) (h : Holds) (fids : Fids) : Type 0 where
  pub held : AreFids h fids
  pub tree : t ≡ keep (is_named fids) t0

pub releasing_none : (t : Tree) (h : Holds) (fids : Fids) → AreFids h fids
    → IsKept t.records (is_held h) → Releasing t t h fids
releasing_none t h fids held kept = record {
  held = held;
  tree =
      sym (keep_same t (is_named fids) (kept_named h fids held t kept));
}

fewer : (a b w : ℕ) → a + w ≡ b → nat_lt 0 a ≡ true → nat_lt 0 b ≡ true
fewer a b w e h = grind (arith, nat_tests)

module _ (t0 t : Tree) (h : Holds) (fids : Fids) (r : Releasing t0 t h fids) (n : ℕ) (f : Fid)
    (at : get fids n ≡ Some f) where
  pub next_held : 0 < hold_count h f.ino
  next_held = let some = fid_count-named fids n f at in let same = r.held f.ino in omega arith

  module _ (h' : Holds) (less : h' ≡ held_less h f.ino) (fids' : Fids)
      (rest : fids' ≡ remove fids n) where
    left_held : AreFids h' fids'
    left_held i =
        let down = (less_counts_of h h' f.ino next_held less).counts i in
        let gone = fid_count-gone fids n f at i in
        let same = r.held i in
        let now = ap (λ (f : Fids). fid_count f i) rest in
        omega arith

    pub releasing_more : (t' : Tree) → IsGoodTree t0 → t' ≡ keep (is_held h') t
        → Releasing t0 t' h' fids'
    releasing_more t' good swept = record {
      held = left_held;
      tree =
          swept ∙ keep_named h' fids' left_held t ∙ ap (keep (is_named fids')) r.tree
          ∙ keep_twice t0 good (is_named fids) (is_named fids')
          (λ i. let gone = fid_count-gone fids n f at i in let now =
          ap (λ (f : Fids). fid_count f i) rest in fewer (fid_count fids' i) (fid_count fids i)
          (fid_weight i f) (omega arith));
    }

  pub fids_fall : (fids' : Fids) → fids' ≡ remove fids n → len fids' < len fids
  fids_fall fids' rest =
      let gone = ap len rest ∙ len-remove nat_cmp_total fids n in
      let there : contains_key fids n ≡ true = ap is_some at in
      let less = gone ∙ ap (λ b. cond b (len fids - 1) (len fids)) there in
      let some = fid_count-named fids n f at in
      let few = fid_count-few fids f.ino in
      omega arith

no_hold : (o : Option ℕ) → unwrap_or o 0 ≡ 0 → ((n : ℕ) → o ≡ Some n → 0 < n) → o ≡ None
no_hold None e p = refl
no_hold (Some n) e p = let more = p n refl in absurd (omega arith)

-- no fids are left, and so no holds
pub released_holds : (h : Holds) → AreFids h empty → ((i n : ℕ) → get h i ≡ Some n → 0 < n)
    → h ≡ empty
released_holds h held positive = same_gets h empty (λ i.
    let few = fid_count-few empty i in
    let none = len-empty nat_cmp Fid in
    let same = held i in
    no_hold (get h i) (omega arith) (positive i) ∙ sym (get-empty nat_cmp i))
