-- A fid that names an inode whose hold was taken.
use Rattle.std.proofs.Common.{◌≡◌, ℕ, ◌+◌, ◌-◌, ◌<◌, ◌≤◌, ◌^◌, Bool, true, false, cond, ◌||◌, refl}
use Rattle.std.proofs.Common.{sym, ap, ◌∙◌, subst, Option, Some, None, Result, Ok, Err, OnOk, OnErr}
use Rattle.std.proofs.Common.{arith}
use Rattle.std.specs.Prelude.{◌==◌, nat_lt}
use Rattle.std.proofs.lemmas.Bool.Decides.{nat_tests}
use Rattle.std.specs.FinMap.{get, insert, len, len-insert, contains_key}
use Rattle.std.specs.Cmp.{nat_cmp_total}
use Rattle.tree_model.specs.Tree.{Tree, keep, is_linked}
use Rattle.tree_model.specs.Settings.{Settings}
use Rattle.tree_model.specs.Sound.{IsKept}
use Rattle.tree_model.specs.declared.attributes.HostError.{HostError}
use Rattle.tree_model.specs.declared.attributes.HostError.TheVariants.{NoMemory}
use Rattle.tree_host.specs.Holds.{Holds, hold_count, held_less}
use Rattle.fid_model.specs.Fids.{Fids, Fid, closed, fid_count, fid_weight, is_held as is_named}
use Rattle.fid_model.proofs.FidCounts.{fid_count-new, fid_count-replaced, fid_count-named}
use Rattle.fid_model.proofs.FidCounts.{fid_count-few}
use Rattle.fid_model.proofs.Keeping.{keep_same}
use Rattle.p9_server.specs.Holding.{AreFids, IsSound, IsMore, IsSame}
use Rattle.p9_server.specs.Steps.{ino_before}
use Rattle.p9_server.proofs.HoldCounts.{less_counts_of}

-- ---- what a fid named before

before_some : (o : Option Fid) (ino : ℕ) → Some ino ≡ ino_before o → (f : Fid) × (o ≡ Some f)
    × (f.ino ≡ ino)
before_some None ino e = absurd (cc)
before_some (Some f) ino e = let same : f.ino ≡ ino = cc in (f, refl, same)

before_none : (o : Option Fid) → None ≡ ino_before o → o ≡ None
before_none None e = refl
before_none (Some f) e = absurd (cc)

own_one : (i : ℕ) → cond {A = ℕ} (i == i) 1 0 ≡ 1
own_one i = grind (arith, nat_tests)

either : (a b c : Bool) → (b ≡ true → c ≡ true) → (a || b) ≡ true → (a || c) ≡ true
either true b c f h = refl
either false b c f h = f h

more : (a b w : ℕ) → b ≡ a + w → nat_lt 0 a ≡ true → nat_lt 0 b ≡ true
more a b w e h = grind (arith, nat_tests)

-- nothing goes where a fid is new
new_kept : (t : Tree) (fids : Fids) (n : ℕ) (f : Fid) → get fids n ≡ None
    → IsKept t.records (is_named fids) → IsKept t.records (is_named (insert fids n f))
new_kept t fids n f none kept q stored = either (is_linked t.records q) (is_named fids q)
    (is_named (insert fids n f) q)
    (more (fid_count fids q) (fid_count (insert fids n f) q) (fid_weight q f)
    (fid_count-new fids n f none q)) (kept q stored)

module _ (h : Holds) (fids : Fids) (n ino : ℕ)
    (held : (i : ℕ) → hold_count h i ≡ fid_count fids i + cond (ino == i) 1 0) where
  pub taken_held : 0 < hold_count h ino
  taken_held = let here = held ino in let one = own_one ino in omega arith

  -- without memory the hold goes again
  pub untaken : (h' : Holds) → h' ≡ held_less h ino → AreFids h' fids
  untaken h' less i =
      let here = held i in
      let down = (less_counts_of h h' ino taken_held less).counts i in
      omega arith

  module _ (fids' : Fids) (is : fids' ≡ insert fids n (closed ino)) where
    -- a fid that is new
    pub new_named : None ≡ ino_before (get fids n) → AreFids h fids'
    new_named none i =
        let here = held i in
        let now = fid_count-new fids n (closed ino) (before_none (get fids n) none) i in
        let same = ap (λ (f : Fids). fid_count f i) is in
        omega arith

    pub new_tree : None ≡ ino_before (get fids n) → (t : Tree) → IsKept t.records (is_named fids)
        → t ≡ keep (is_named fids') t
    new_tree none t kept = sym (ap (λ (f : Fids). keep (is_named f) t) is
        ∙ keep_same t (is_named (insert fids n (closed ino)))
        (new_kept t fids n (closed ino) (before_none (get fids n) none) kept))

    -- a fid that named another inode, or the same
    module _ (old : ℕ) (before : Some old ≡ ino_before (get fids n)) where
      pub old_held : 0 < hold_count h old
      old_held =
          let f = before_some (get fids n) old before in
          let some = fid_count-named fids n f.0 f.1 in
          let here = held f.0.ino in
          subst (λ i. 0 < hold_count h i) f.2 (omega arith)

      pub old_named : (h' : Holds) → h' ≡ held_less h old → AreFids h' fids'
      old_named h' less i =
          let f = before_some (get fids n) old before in
          let here = held i in
          let down = (less_counts_of h h' old old_held less).counts i in
          let now = fid_count-replaced fids n (closed ino) f.0 f.1 i in
          let same = ap (λ (f : Fids). fid_count f i) is in
          let own : fid_weight i f.0 ≡ cond (old == i) 1 0 =
          ap (λ (k : ℕ). cond {A = ℕ} (k == i) 1 0) f.2 in
          omega arith

-- ---- the server's holds

module _ (h : Holds) (fids : Fids) (msize : ℕ) (settings : Settings)
    (sound : IsSound h fids msize settings) where
  -- holds are few
  pub sound_room : (i : ℕ) → hold_count h i + 1 < 2 ^ 64 - 1
  sound_room i =
      let same = sound.held i in
      let few = fid_count-few fids i in
      let less = sound.few in
      let low = sound.bounded in
      omega arith

  pub sound_roomy : (i : ℕ) → hold_count h i < 2 ^ 64 - 1
  sound_roomy i = let room = sound_room i in omega arith

  pub sound_same : (h' : Holds) → IsSame h h' → IsSound h' fids msize settings
  sound_same h' same = record {
    held = λ i. same.counts i ∙ sound.held i;
    few = sound.few;
    bounded =
        sound.bounded;
    roomy = sound.roomy;
    below = sound.below;
  }

  -- one hold more, for the fid that is to come
  pub sound_more : (h' : Holds) (ino : ℕ) → IsMore h h' ino → (i : ℕ)
      → hold_count h' i ≡ fid_count fids i + cond (ino == i) 1 0
  sound_more h' ino taken i = taken.counts i ∙ ap (λ (n : ℕ). n + cond (ino == i) 1 0)
      (sound.held i)

  pub sound_with : (h' : Holds) (fids' : Fids) → AreFids h' fids' → len fids' ≤ settings.limit
      → IsSound h' fids' msize settings
  sound_with h' fids' held few = record {
    held = held;
    few = few;
    bounded = sound.bounded;
    roomy =
        sound.roomy;
    below = sound.below;
  }

  few_by : (b : Bool) (n l m : ℕ) → n ≤ l → (b ≡ false → n < l) → m ≡ cond b n (n + 1) → m ≤ l
  few_by true n l m few below is = omega arith
  few_by false n l m few below is = let less = below refl in omega arith

  -- one fid more, where there is room for one that is new
  pub still_few : (n : ℕ) (f : Fid) (fids' : Fids) → fids' ≡ insert fids n f
      → (contains_key fids n ≡ false → len fids < settings.limit) → len fids' ≤ settings.limit
  still_few n f fids' is below = few_by (contains_key fids n) (len fids) settings.limit (len fids')
      sound.few below (ap len is ∙ len-insert nat_cmp_total fids n f)

  -- so it is after a fid was named, or wasn't for want of memory
  pub named_few : (n ino : ℕ) (fids' : Fids) → (contains_key fids n ≡ false
      → len fids < settings.limit) → (r : Result (Unit {0}) HostError)
      → OnOk r (fids' ≡ insert fids n (closed ino)) → OnErr r ((fids' ≡ fids) × (r ≡ Err NoMemory))
      → len fids' ≤ settings.limit
  named_few n ino fids' room (Ok x) is same = still_few n (closed ino) fids' is room
  named_few n ino fids' room (Err e) is same = let few = sound.few in let all =
      ap len same.0 in omega arith
