-- Steps of a Tsetattr, one after another.
use Rattle.std.proofs.Common.{◌≡◌, inl, inr, ⊎_elim, ℕ, ◌<◌, ◌≤◌, ◌^◌, Bool, true, false}
use Rattle.std.proofs.Common.{cond, ◌&&◌, ◌||◌, List, [], ◌∷◌, ◌++◌, refl, sym, ap, ◌∙◌, subst, Option}
use Rattle.std.proofs.Common.{Some, None, Result, Ok, Err, arith}
use Rattle.std.specs.Prelude.{min, MatchResult, option_map, nat_lt, ◌-◌}
use Rattle.std.proofs.lemmas.Bool.Decides.{nat_tests}
use Rattle.std.specs.FinMap.{get}
use Rattle.port_base.specs.declared.errno.TheConstants.{EBADF, EINVAL}
use Rattle.tree_model.specs.Tree.{Tree, Record, Body, body_at}
use Rattle.tree_model.specs.Tree.Body.{File, Directory, Link}
use Rattle.tree_model.specs.Sound.{IsKept, AreStored}
use Rattle.tree_model.specs.Settings.{Settings}
use Rattle.tree_model.specs.Attributes.{stat_of, attr_or_missing, attr_of, kind_of}
use Rattle.tree_model.specs.Attributing.{refused_at, set_len_of, set_times_of, is_timely}
use Rattle.tree_model.specs.Attributing.{with_changed, retimed}
use Rattle.tree_model.specs.Making.{unless_refused}
use Rattle.tree_model.specs.declared.attributes.Attr.{Attr}
use Rattle.tree_model.specs.declared.attributes.Stamp.{Stamp}
use Rattle.tree_model.specs.declared.attributes.TimeSet.{TimeSet}
use Rattle.tree_model.specs.declared.attributes.TimeSet.TheVariants.{At}
use Rattle.tree_model.specs.declared.attributes.HostError.{HostError}
use Rattle.tree_model.specs.declared.attributes.HostError.TheVariants.{Errno, Fault, NoMemory}
use Rattle.tree_host.specs.Holds.{Holds, hold_count, is_held}
use Rattle.tree_host.specs.Host.{Answers, Leaves}
use Rattle.tree_host.specs.Calls.{Causes}
use Rattle.p9_tmsg.specs.Messages.Message.{setattr}
use Rattle.p9_rmsg.specs.Replies.{Reply}
use Rattle.p9_rmsg.specs.Replies.Reply.{setattr as were_set}
use Rattle.fid_model.specs.Fids.{Fids, Fid, OpenState, ServerState, kept_state, is_held as is_named}
use Rattle.tree_model.specs.AttributeSteps.{Step, IsAfterFront, ctime_steps}
use Rattle.tree_model.specs.AttributeSteps.{mode_steps, owner_steps, size_steps, times_steps}
use Rattle.tree_model.specs.AttributeSteps.{new_time, resize_step, run, run_on, size_refused}
use Rattle.tree_model.specs.AttributeSteps.{step_if, step_unless}
use Rattle.fid_model.specs.Setattr.{Changes, changes, is_open_to_read_alone, new_attributes, steps}
use Rattle.fid_model.specs.Setattr.{steps_at}
use Rattle.fid_model.specs.Answers.{answer, setattr_by, setattr_reply}
use Rattle.fid_model.proofs.FidCounts.{fid_count-named}
use Rattle.fid_model.proofs.Keeping.{kept_state_kept}
use Rattle.p9_server.specs.Holding.{AreFids}
use Rattle.p9_server.specs.Setting.{Runs, kind_size_refused}
use Rattle.p9_server.specs.Steps.{IsStep, server_state}
use Rattle.p9_server.proofs.Stepping.{pair, not_steady, step_ok, step_errno, step_refused}
use Rattle.p9_server.proofs.Taking.{only_fault}
use Rattle.port_base.specs.OpenFlags.{has_flag}
use Rattle.fid_model.specs.declared.setattr.TheConstants.{P9_SETATTR_ATIME, P9_SETATTR_ATIME_SET}
use Rattle.fid_model.specs.declared.setattr.TheConstants.{P9_SETATTR_MTIME, P9_SETATTR_MTIME_SET}

-- ---- one list of steps behind another

abbrev Ran : Type 0
Ran = Result (Unit {0}) ℕ × Tree

ok_on : (r : Result (Unit {0} × Tree) ℕ) (t u : Tree) (w : Ran) (rest all : Tree → Ran)
    → ((v : Tree) → rest v ≡ (Ok tt, u) → all v ≡ w) → run_on r t rest ≡ (Ok tt, u)
    → run_on r t all ≡ w
ok_on (Ok (x, v)) t u w rest all later is = later v is
ok_on (Err e) t u w rest all later is = absurd
    (let wrong : ◌≡◌ {A = Result (Unit {0}) ℕ} (Err e) (Ok tt) = ap (λ (p : Ran). p.0) is in cc)

err_on : (r : Result (Unit {0} × Tree) ℕ) (t u : Tree) (k : ℕ) (rest all : Tree → Ran)
    → ((v : Tree) → rest v ≡ (Err k, u) → all v ≡ (Err k, u)) → run_on r t rest ≡ (Err k, u)
    → run_on r t all ≡ (Err k, u)
err_on (Ok (x, v)) t u k rest all later is = later v is
err_on (Err e) t u k rest all later is = is

-- all of the first were done
run_behind : (xs ys : List Step) (t u : Tree) → run xs t ≡ (Ok tt, u) → run (xs ++ ys) t ≡ run ys u
run_behind [] ys t u is = ap (run ys) (ap (λ (p : Ran). p.1) is)
run_behind (x ∷ xs) ys t u is = ok_on (x t) t u (run ys u) (run xs) (run (xs ++ ys))
    (λ v. run_behind xs ys v u) is

-- one of the first was refused
run_refused : (xs ys : List Step) (t u : Tree) (k : ℕ) → run xs t ≡ (Err k, u)
    → run (xs ++ ys) t ≡ (Err k, u)
run_refused [] ys t u k is = absurd (let wrong : ◌≡◌ {A = Result (Unit {0}) ℕ} (Ok tt) (Err k) =
    ap (λ (p : Ran). p.0) is in cc)
run_refused (x ∷ xs) ys t u k is = err_on (x t) t u k (run xs) (run (xs ++ ys))
    (λ v. run_refused xs ys v u k) is

none_done : (xs : List Step) (t u : Tree) → u ≡ t → IsAfterFront xs t u
none_done [] t u same = same
none_done (x ∷ xs) t u same = inl same

matched : (r : Result (Unit {0} × Tree) ℕ) (P Q : Tree → Type 0) → ((v : Tree) → P v → Q v)
    → MatchResult r (λ done. P done.1) (λ e. ⊥) → MatchResult r (λ done. Q done.1) (λ e. ⊥)
matched (Ok (x, v)) P Q h p = h v p
matched (Err e) P Q h p = p

-- a front part of the first
front_of : (xs ys : List Step) (t u : Tree) → IsAfterFront xs t u → IsAfterFront (xs ++ ys) t u
front_of [] ys t u front = none_done ys t u front
front_of (x ∷ xs) ys t u front = ⊎_elim (λ same. inl same)
    (λ done. inr (matched (x t) (λ v. IsAfterFront xs v u) (λ v. IsAfterFront (xs ++ ys) v u)
    (λ v. front_of xs ys v u) done)) front

matched_by : (r : Result (Unit {0} × Tree) ℕ) (t u : Tree) (rest : Tree → Ran) (Q : Tree → Type 0)
    → ((v : Tree) → rest v ≡ (Ok tt, u) → Q v) → run_on r t rest ≡ (Ok tt, u)
    → MatchResult r (λ done. Q done.1) (λ e. ⊥)
matched_by (Ok (x, v)) t u rest Q h is = h v is
matched_by (Err e) t u rest Q h is = let wrong : ◌≡◌ {A = Result (Unit {0}) ℕ} (Err e) (Ok tt) =
    ap (λ (p : Ran). p.0) is in cc

-- all of the first, and a front part of the rest
front_behind : (xs ys : List Step) (t u w : Tree) → run xs t ≡ (Ok tt, u) → IsAfterFront ys u w
    → IsAfterFront (xs ++ ys) t w
front_behind [] ys t u w is front = subst (λ (v : Tree). IsAfterFront ys v w)
    (sym (ap (λ (p : Ran). p.1) is)) front
front_behind (x ∷ xs) ys t u w is front = inr
    (matched_by (x t) t u (run xs) (λ v. IsAfterFront (xs ++ ys) v w)
    (λ v ran. front_behind xs ys v u w ran front) is)

pub runs_then : (xs ys : List Step) (t u w : Tree) (r : Result (Unit {0}) HostError)
    → Runs xs t u (Ok tt) → Runs ys u w r → Runs (xs ++ ys) t w r
runs_then xs ys t u w (Ok x) h k = record { exactly = run_behind xs ys t u h.exactly ∙ k.exactly }
runs_then xs ys t u w (Err (Errno e)) h k = record
    { exactly = run_behind xs ys t u h.exactly ∙ k.exactly }
runs_then xs ys t u w (Err Fault) h k = record
    { exactly = front_behind xs ys t u w h.exactly k.exactly }
runs_then xs ys t u w (Err NoMemory) h k = record
    { exactly = front_behind xs ys t u w h.exactly k.exactly }

pub runs_stopped : (xs ys : List Step) (t u : Tree) (e : HostError) → Runs xs t u (Err e)
    → Runs (xs ++ ys) t u (Err e)
runs_stopped xs ys t u (Errno k) h = record { exactly = run_refused xs ys t u k h.exactly }
runs_stopped xs ys t u Fault h = record { exactly = front_of xs ys t u h.exactly }
runs_stopped xs ys t u NoMemory h = record { exactly = front_of xs ys t u h.exactly }

-- ---- one step

-- a step that isn't wanted
pub runs_none : (wanted : Bool) (step : Step) (t : Tree) → wanted ≡ false
    → Runs (step_if wanted step) t t (Ok tt)
runs_none wanted step t is = subst (λ (b : Bool). Runs (step_if b step) t t (Ok tt)) (sym is)
    (record { exactly = refl })

runs_one : (step : Step) (t u : Tree) (r : Result (Unit {0}) HostError) → Leaves (step t) t u r
    → Runs (step ∷ []) t u r
runs_one step t u (Ok x) l = record {
  exactly =
      ap (λ (s : Result (Unit {0} × Tree) ℕ). run_on s t (run [])) l.exactly;
}
runs_one step t u (Err (Errno e)) l = record {
  exactly =
      ap (λ (s : Result (Unit {0} × Tree) ℕ). run_on s t (run [])) l.exactly.0
      ∙ (λ j. (Err e, sym l.exactly.1 j));
}
runs_one step t u (Err Fault) l = record { exactly = inl l.exactly }
runs_one step t u (Err NoMemory) l = record { exactly = inl l.exactly }

-- one that is, as a call of the host does it
pub runs_step : (wanted : Bool) (step : Step) (t u : Tree) (r : Result (Unit {0}) HostError)
    → wanted ≡ true → Leaves (step t) t u r → Runs (step_if wanted step) t u r
runs_step wanted step t u r is l = subst (λ (b : Bool). Runs (step_if b step) t u r) (sym is)
    (runs_one step t u r l)

-- ---- size

body_by : (i : ℕ) (o : Option Record) (a : Attr) → attr_or_missing i o ≡ Ok a → (b : Body)
    × (option_map (λ (r : Record). r.body) o ≡ Some b) × (kind_of b ≡ a.kind)
body_by i None a is = absurd (cc)
body_by i (Some r) a is = (
  r.body,
  refl,
  ap (λ (b : Attr). b.kind)
      (let same : attr_of i r ≡ a = cc in same),
)

kind_by : (state : OpenState) (b : Body) → size_refused (is_open_to_read_alone state) b ≡ kind_size_refused state
    (kind_of b)
kind_by state (File bytes) = refl
kind_by state (Directory es next above) = refl
kind_by state (Link target) = refl

module _ (f : Fid) (size : ℕ) (t : Tree) (a : Attr) (told : stat_of t f.ino ≡ Ok a) where
  size_by : refused_at (size_refused (is_open_to_read_alone f.open_state)) (body_at t.records f.ino) ≡ kind_size_refused
      f.open_state a.kind
  size_by = let b = body_by f.ino (get t.records f.ino) a told in ap
      (refused_at (size_refused (is_open_to_read_alone f.open_state))) b.1 ∙ kind_by f.open_state b.0
      ∙ ap (kind_size_refused f.open_state) b.2

  pub unsized : (e : ℕ) → Some e ≡ kind_size_refused f.open_state a.kind
      → resize_step (is_open_to_read_alone f.open_state) f.ino size t ≡ Err e
  unsized e is = ap (λ (o : Option ℕ). step_unless o (set_len_of t f.ino size)) (size_by ∙ sym is)

  pub resized : None ≡ kind_size_refused f.open_state a.kind
      → resize_step (is_open_to_read_alone f.open_state) f.ino size t ≡ set_len_of t f.ino size
  resized is = ap (λ (o : Option ℕ). step_unless o (set_len_of t f.ino size)) (size_by ∙ sym is)

-- the host fails to tell the kind of what is held by a fault alone
pub unstated : (f : Fid) (size : ℕ) (t u : Tree) (h : Holds) → AreStored t.records (is_held h)
    → 0 < hold_count h f.ino → u ≡ t → (e : HostError)
    → Answers {A = Attr} (stat_of t f.ino) (Err e)
    → (◌≡◌ {A = Result Attr HostError} (Err e) (Err NoMemory) → ⊥)
    → Leaves {A = Unit {0}} (resize_step (is_open_to_read_alone f.open_state) f.ino size t) t u (Err e)
unstated f size t u h stored held same e a other =
    let is : e ≡ Fault = let fault = only_fault t h f.ino stored held e a other in cc in
    subst (λ (e : HostError). Leaves {A = Unit {0}} (resize_step (is_open_to_read_alone f.open_state) f.ino size t) t u (Err e)) (sym is)
    (record { exactly = same })

-- ---- times

-- nanoseconds as a host takes them
abbrev pub clamped : Stamp → Stamp
clamped s = record { sec = s.sec; nsec = min s.nsec (2 ^ 32 - 1) }

clamped_test : (n : ℕ) → nat_lt (min n (2 ^ 32 - 1)) 1000000000 ≡ nat_lt n 1000000000
clamped_test n = by_test (nat_lt n 1000000000) refl where
  by_test : (b : Bool) → nat_lt n 1000000000 ≡ b
      → nat_lt (min n (2 ^ 32 - 1)) 1000000000 ≡ nat_lt n 1000000000
  by_test true is = let less : n < 1000000000 =
      grind (arith, nat_tests) in let small : min n (2 ^ 32 - 1) < 1000000000 =
      omega arith in let both : nat_lt (min n (2 ^ 32 - 1)) 1000000000 ≡ true =
      grind (arith, nat_tests) in both ∙ sym is
  by_test false is = let more : 1000000000 ≤ n =
      grind (arith, nat_tests) in let large : 1000000000 ≤ min n (2 ^ 32 - 1) =
      omega arith in let both : nat_lt (min n (2 ^ 32 - 1)) 1000000000 ≡ false =
      grind (arith, nat_tests) in both ∙ sym is

clamped_timely : (set given : Bool) (s : Stamp)
    → is_timely (new_time set given (clamped s)) ≡ is_timely (new_time set given s)
clamped_timely false given s = refl
clamped_timely true false s = refl
clamped_timely true true s = clamped_test s.nsec

timely_same : (set given : Bool) (s : Stamp) → is_timely (new_time set given s) ≡ true
    → new_time set given (clamped s) ≡ new_time set given s
timely_same false given s is = refl
timely_same true false s is = refl
timely_same true true s is =
    let less : s.nsec < 1000000000 = grind (arith, nat_tests) in
    let same : min s.nsec (2 ^ 32 - 1) ≡ s.nsec = omega arith in
    (λ j. At (record { sec = s.sec; nsec = same j }))

both_true : (a b : Bool) → (a && b) ≡ true → (a ≡ true) × (b ≡ true)
both_true true b is = (refl, is)
both_true false b is = absurd (cc)

refused_both : (o : Option Body) (t u v : Tree)
    → unless_refused {A = Unit {0}} (refused_at (λ b. Some EINVAL) o) tt u ≡ unless_refused
    (refused_at (λ b. Some EINVAL) o) tt v
refused_both None t u v = refl
refused_both (Some b) t u v = refl

-- times that a host refuses, it refuses also with fewer nanoseconds
pub clamped_times : (t : Tree) (ino : ℕ) (set0 given0 set1 given1 : Bool) (s0 s1 : Stamp)
    → set_times_of t ino (new_time set0 given0 (clamped s0)) (new_time set1 given1 (clamped s1))
    ≡ set_times_of t ino (new_time set0 given0 s0) (new_time set1 given1 s1)
clamped_times t ino set0 given0 set1 given1 s0 s1 =
    by_test (is_timely (new_time set0 given0 s0) && is_timely (new_time set1 given1 s1)) refl where
      by_test : (b : Bool) → (is_timely (new_time set0 given0 s0) && is_timely
          (new_time set1 given1 s1)) ≡ b
          → set_times_of t ino (new_time set0 given0 (clamped s0))
          (new_time set1 given1 (clamped s1))
          ≡ set_times_of t ino (new_time set0 given0 s0) (new_time set1 given1 s1)
      by_test true is = let both = both_true (is_timely (new_time set0 given0 s0))
          (is_timely (new_time set1 given1 s1)) is in
          (λ j. set_times_of t ino (timely_same set0 given0 s0 both.0 j)
          (timely_same set1 given1 s1 both.1 j))
      by_test false is =
          let test : (is_timely (new_time set0 given0 (clamped s0)) && is_timely
          (new_time set1 given1 (clamped s1))) ≡ false =
          (λ j. clamped_timely set0 given0 s0 j && clamped_timely set1 given1 s1 j) ∙ is in
          let late = λ (a m : TimeSet). with_changed (retimed a m t.moment) ino t in
          ap (λ (b : Bool). unless_refused {A = Unit {0}}
          (refused_at (λ x. cond b None (Some EINVAL)) (body_at t.records ino)) tt
          (late (new_time set0 given0 (clamped s0)) (new_time set1 given1 (clamped s1)))) test
          ∙ refused_both (body_at t.records ino) t _ _
          ∙ sym (ap (λ (b : Bool). unless_refused {A = Unit {0}}
          (refused_at (λ x. cond b None (Some EINVAL)) (body_at t.records ino)) tt
          (late (new_time set0 given0 s0) (new_time set1 given1 s1))) is)

-- times that a host set, with its nanoseconds
pub times_run : (c : Changes) (ino : ℕ) (t u : Tree) (r : Result (Unit {0}) HostError)
    → (has_flag P9_SETATTR_ATIME c.valid || has_flag P9_SETATTR_MTIME c.valid) ≡ true
    → Leaves (set_times_of t ino
    (new_time (has_flag P9_SETATTR_ATIME c.valid) (has_flag P9_SETATTR_ATIME_SET c.valid)
    (clamped c.atime))
    (new_time (has_flag P9_SETATTR_MTIME c.valid) (has_flag P9_SETATTR_MTIME_SET c.valid)
    (clamped c.mtime))) t u r
    → Runs (times_steps ino (new_attributes c)) t u r
times_run c ino t u r wanted l = runs_step
    (has_flag P9_SETATTR_ATIME c.valid || has_flag P9_SETATTR_MTIME c.valid)
    (λ t. set_times_of t ino (new_attributes c).atime (new_attributes c).mtime) t u r wanted
    (subst (λ (x : Result (Unit {0} × Tree) ℕ). Leaves x t u r)
    (clamped_times t ino (has_flag P9_SETATTR_ATIME c.valid)
    (has_flag P9_SETATTR_ATIME_SET c.valid) (has_flag P9_SETATTR_MTIME c.valid)
    (has_flag P9_SETATTR_MTIME_SET c.valid) c.atime c.mtime) l)

-- ---- the step

module _ (t : Tree) (fids : Fids) (msize : ℕ) (settings : Settings)
    (n valid mode uid gid size atime_sec atime_nsec mtime_sec mtime_nsec : ℕ) (steady : Bool) where
  abbrev before : ServerState
  before = server_state t fids msize settings

  abbrev c : Changes
  c = changes valid mode uid gid size atime_sec atime_nsec mtime_sec mtime_nsec

  abbrev pub sets : Unit {0} → Reply
  sets u = were_set

  pub unknown_step : IsKept t.records (is_named fids) → None ≡ get fids n → (f : ℕ)
      → IsStep (setattr n valid mode uid gid size atime_sec atime_nsec mtime_sec mtime_nsec) sets
      before before steady f f (Err (Errno EBADF))
  unknown_step kept none f = step_refused (setattr n valid mode uid gid size atime_sec atime_nsec
      mtime_sec mtime_nsec) sets before before steady f f EBADF
      (ap (setattr_by before c) (sym none)) kept refl refl

  module _ (f : Fid) (at : Some f ≡ get fids n) where
    pub known_held : (h : Holds) → AreFids h fids → 0 < hold_count h f.ino
    known_held h same = let some = fid_count-named fids n f (sym at) in let held =
        same f.ino in omega arith

    module _ (t' : Tree) (kept' : IsKept t'.records (is_named fids)) (f0 f1 : ℕ) where
      abbrev after : ServerState
      after = server_state t' fids msize settings

      set_answer : (x : Result (Unit {0}) ℕ) → run (steps c f) t ≡ (x, t')
          → answer before (setattr n valid mode uid gid size atime_sec atime_nsec mtime_sec
          mtime_nsec) ≡ pair (setattr_reply x) after
      set_answer x is =
          ap (λ (o : Option Fid). pair (setattr_by before c o).0
          (kept_state (setattr_by before c o).1)) (sym at)
          ∙ (λ j. pair (setattr_reply (is j).0)
          (kept_state (server_state (is j).1 fids msize settings)))
          ∙ (λ j. pair (setattr_reply x) (kept_state_kept after kept' j))

      front : IsAfterFront (steps c f) t t' → IsAfterFront (steps_at c (get fids n)) t t'
      front part = subst (λ (o : Option Fid). IsAfterFront (steps_at c o) t t') at part

      pub set_step : (r : Result (Unit {0}) HostError) → Runs (steps c f) t t' r
          → Causes {A = Unit {0}} steady f0 f1 r
          → IsStep (setattr n valid mode uid gid size atime_sec atime_nsec mtime_sec mtime_nsec)
          sets before after steady f0 f1 r
      set_step (Ok x) h k = step_ok (setattr n valid mode uid gid size atime_sec atime_nsec
          mtime_sec mtime_nsec) sets before after steady f0 f1 x
          (sym (set_answer (Ok tt) h.exactly)) k.counted
      set_step (Err (Errno e)) h k = step_errno
          (setattr n valid mode uid gid size atime_sec atime_nsec mtime_sec mtime_nsec) sets before
          after steady f0 f1 e (sym (set_answer (Err e) h.exactly)) k.counted
      set_step (Err Fault) h k = record {
        answer =
            inr (k.counted.0.1, refl, refl, front h.exactly);
        rises = k.counted.0.0;
        steadily =
            not_steady steady f0 f1 k.counted.1;
      }
      set_step (Err NoMemory) h k = record {
        answer = (refl, front h.exactly);
        rises =
            (let same = k.counted in omega arith);
        steadily = λ on. k.counted;
      }

-- ---- all steps

module _ (c : Changes) (f : Fid) (t0 t1 t2 t3 : Tree) (mode : Runs (mode_steps f.ino (new_attributes c)) t0 t1 (Ok tt))
    (owner : Runs (owner_steps f.ino (new_attributes c)) t1 t2 (Ok tt)) where
  abbrev owned : List Step
  owned = mode_steps f.ino (new_attributes c) ++ owner_steps f.ino (new_attributes c)

  to_owner : Runs owned t0 t2 (Ok tt)
  to_owner = runs_then (mode_steps f.ino (new_attributes c)) (owner_steps f.ino (new_attributes c)) t0 t1 t2 (Ok tt) mode owner

  abbrev sized : List Step
  sized = owned ++ size_steps (is_open_to_read_alone f.open_state) f.ino (new_attributes c)

  -- an error at the size
  pub size_stopped : (e : HostError) → Runs (size_steps (is_open_to_read_alone f.open_state) f.ino (new_attributes c)) t2 t3 (Err e)
      → Runs (steps c f) t0 t3 (Err e)
  size_stopped e size =
      runs_stopped (sized ++ times_steps f.ino (new_attributes c)) (ctime_steps f.ino (new_attributes c)) t0 t3 e
      (runs_stopped sized (times_steps f.ino (new_attributes c)) t0 t3 e
      (runs_then owned (size_steps (is_open_to_read_alone f.open_state) f.ino (new_attributes c)) t0 t2 t3 (Err e) to_owner size))

  module _ (size : Runs (size_steps (is_open_to_read_alone f.open_state) f.ino (new_attributes c)) t2 t3 (Ok tt)) (t4 : Tree) where
    to_size : Runs sized t0 t3 (Ok tt)
    to_size = runs_then owned (size_steps (is_open_to_read_alone f.open_state) f.ino (new_attributes c)) t0 t2 t3 (Ok tt) to_owner size

    -- an error at the times
    pub times_stopped : (e : HostError) → Runs (times_steps f.ino (new_attributes c)) t3 t4 (Err e)
        → Runs (steps c f) t0 t4 (Err e)
    times_stopped e times = runs_stopped (sized ++ times_steps f.ino (new_attributes c)) (ctime_steps f.ino (new_attributes c)) t0 t4 e
        (runs_then sized (times_steps f.ino (new_attributes c)) t0 t3 t4 (Err e) to_size times)

    -- and what the last step answers
    pub all_run : Runs (times_steps f.ino (new_attributes c)) t3 t4 (Ok tt)
        → (t5 : Tree) (r : Result (Unit {0}) HostError) → Runs (ctime_steps f.ino (new_attributes c)) t4 t5 r
        → Runs (steps c f) t0 t5 r
    all_run times t5 r ctime = runs_then (sized ++ times_steps f.ino (new_attributes c)) (ctime_steps f.ino (new_attributes c)) t0 t4 t5 r
        (runs_then sized (times_steps f.ino (new_attributes c)) t0 t3 t4 (Ok tt) to_size times) ctime
