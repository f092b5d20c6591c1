-- A message that asks something by a fid, and changes nothing.
use Rattle.std.proofs.Common.{◌≡◌, ℕ, ◌<◌, ◌≤◌, Bool, true, false, cond, refl, sym, ap, ◌∙◌, subst}
use Rattle.std.proofs.Common.{Option, Some, None, Result, Ok, Err, arith}
use Rattle.std.specs.Prelude.{nat_lt}
use Rattle.std.proofs.lemmas.Bool.Decides.{nat_tests}
use Rattle.std.specs.Result.{IsErrAnd}
use Rattle.std.specs.FinMap.{get}
use Rattle.port_base.specs.declared.errno.TheConstants.{EBADF, EIO}
use Rattle.tree_model.specs.Sound.{IsKept}
use Rattle.tree_model.specs.declared.attributes.HostError.{HostError}
use Rattle.tree_model.specs.declared.attributes.HostError.TheVariants.{Errno, Fault, NoMemory}
use Rattle.tree_host.specs.Holds.{Holds, hold_count}
use Rattle.tree_host.specs.Host.{Answers}
use Rattle.tree_host.specs.Calls.{Causes}
use Rattle.p9_tmsg.specs.Messages.{Message}
use Rattle.p9_rmsg.specs.Replies.{Reply}
use Rattle.p9_rmsg.specs.Replies.Reply.{lerror}
use Rattle.fid_model.specs.Fids.{Fids, Fid, OpenState, ServerState, kept_state, is_held as is_named}
use Rattle.fid_model.specs.FidCalls.{by_fid, by_open_fid, told_answer}
use Rattle.fid_model.specs.Answers.{core, answer}
use Rattle.fid_model.specs.Handling.{IsHurtReply}
use Rattle.fid_model.proofs.FidCounts.{fid_count-named}
use Rattle.fid_model.proofs.Keeping.{kept_state_kept}
use Rattle.p9_server.specs.Holding.{AreFids}
use Rattle.p9_server.specs.Steps.{IsStep, ino_told, open_told}
use Rattle.p9_server.proofs.Stepping.{pair, step_ok, step_errno, step_fault, step_no_memory}
use Rattle.p9_server.proofs.Showing.{passed_on}

-- ---- tests on numbers

pub lt_true : (m n : ℕ) → m < n → nat_lt m n ≡ true
lt_true m n less = grind (arith, nat_tests)

pub lt_false : (m n : ℕ) → n ≤ m → nat_lt m n ≡ false
lt_false m n least = grind (arith, nat_tests)

-- ---- by a fid

module _ {B : Type 0} (told : Fid → Result B ℕ) where
  -- one that isn't there
  pub by_unknown : (o : Option Fid) (e : HostError) → Err e ≡ ino_told o
      → (by_fid told o ≡ Err EBADF) × (e ≡ Errno EBADF)
  by_unknown None e is = let same : e ≡ Errno EBADF = cc in (refl, same)
  by_unknown (Some f) e is = absurd (cc)

  -- one that is
  pub by_known : (o : Option Fid) (ino : ℕ) → Ok ino ≡ ino_told o → (f : Fid) × (o ≡ Some f)
      × (by_fid told o ≡ told f) × (f.ino ≡ ino)
  by_known None ino is = absurd (cc)
  by_known (Some f) ino is = let same : f.ino ≡ ino = cc in (f, refl, refl, same)

  closed_for : (b : Bool) (ino : ℕ) (e : HostError) (x : Result B ℕ)
      → Err e ≡ cond {A = Result ℕ HostError} b (Ok ino) (Err (Errno EBADF))
      → (cond b x (Err EBADF) ≡ Err EBADF) × (e ≡ Errno EBADF)
  closed_for true ino e x is = absurd (cc)
  closed_for false ino e x is = let same : e ≡ Errno EBADF = cc in (refl, same)

  open_for : (b : Bool) (own ino : ℕ) (x : Result B ℕ)
      → Ok ino ≡ cond {A = Result ℕ HostError} b (Ok own) (Err (Errno EBADF))
      → (cond b x (Err EBADF) ≡ x) × (own ≡ ino)
  open_for true own ino x is = let same : own ≡ ino = cc in (refl, same)
  open_for false own ino x is = absurd (cc)

  -- one that isn't open so
  pub by_unopened : (is_open : OpenState → Bool) (o : Option Fid) (e : HostError)
      → Err e ≡ open_told is_open o → (by_open_fid is_open told o ≡ Err EBADF) × (e ≡ Errno EBADF)
  by_unopened is_open None e is = let same : e ≡ Errno EBADF = cc in (refl, same)
  by_unopened is_open (Some f) e is = closed_for (is_open f.open_state) f.ino e (told f) is

  -- one that is
  pub by_opened : (is_open : OpenState → Bool) (o : Option Fid) (ino : ℕ)
      → Ok ino ≡ open_told is_open o → (f : Fid) × (o ≡ Some f)
      × (by_open_fid is_open told o ≡ told f) × (f.ino ≡ ino)
  by_opened is_open None ino is = absurd (cc)
  by_opened is_open (Some f) ino is = let x =
      open_for (is_open f.open_state) f.ino ino (told f) is in (f, refl, x.0, x.1)

-- what such a fid names is held
pub open_held : (is_open : OpenState → Bool) (h : Holds) (fids : Fids) → AreFids h fids
    → (n ino : ℕ) → Ok ino ≡ open_told is_open (get fids n) → 0 < hold_count h ino
open_held is_open h fids same n ino e =
    let f = by_opened {B = Unit {0}} (λ f. Ok tt) is_open (get fids n) ino e in
    let some = fid_count-named fids n f.0 f.1 in
    let held = same f.0.ino in
    subst (λ i. 0 < hold_count h i) f.3 (omega arith)

-- ---- the step

module _ {A B : Type 0} (m : Message) (reply : A → Reply) (view : B → Reply) (s : ServerState)
    (kept : IsKept s.tree.records (is_named s.fids)) (steady : Bool) (told : Result B ℕ)
    (is : core s m ≡ told_answer s view told) where
  answer_by : (x : Result B ℕ) → told ≡ x → answer s m ≡ told_answer s view x
  answer_by (Ok b) same = ap (λ (x : Reply × ServerState). pair x.0 (kept_state x.1))
      (is ∙ ap (told_answer s view) same) ∙ (λ j. pair (view b) (kept_state_kept s kept j))
  answer_by (Err e) same = ap (λ (x : Reply × ServerState). pair x.0 (kept_state x.1))
      (is ∙ ap (told_answer s view) same) ∙ (λ j. pair (lerror e) (kept_state_kept s kept j))

  module _ (s1 : ServerState) (left : s1 ≡ s) (f0 f1 : ℕ) where
    -- the answer
    pub told_step : (a : A) (b : B) → told ≡ Ok b → reply a ≡ view b → f1 ≡ f0
        → IsStep m reply s s1 steady f0 f1 (Ok a)
    told_step a b same seen count = step_ok m reply s s1 steady f0 f1 a
        ((λ j. pair (seen j) (left j)) ∙ sym (answer_by (Ok b) same)) count

    -- a refusal
    pub refused_step : (e : ℕ) → told ≡ Err e → f1 ≡ f0
        → IsStep m reply s s1 steady f0 f1 (Err (Errno e))
    refused_step e same count = step_errno m reply s s1 steady f0 f1 e
        ((λ j. pair (lerror e) (left j)) ∙ sym (answer_by (Err e) same)) count

    -- a refusal that is known, as the code tells it
    pub refused_so : (n : ℕ) (e : HostError) → (told ≡ Err n) × (e ≡ Errno n) → f1 ≡ f0
        → IsStep m reply s s1 steady f0 f1 (Err e)
    refused_so n e both count = subst (λ (e : HostError). IsStep m reply s s1 steady f0 f1 (Err e))
        (sym both.1) (refused_step n both.0 count)

    -- an error of the host
    pub failed_step : {C D : Type 0} (x : Result C ℕ) → ((n : ℕ) → x ≡ Err n → told ≡ Err n)
        → IsHurtReply s m (lerror EIO) → (e : HostError) → Answers x (Err e)
        → Causes {A = D} steady f0 f1 (Err e) → IsStep m reply s s1 steady f0 f1 (Err e)
    failed_step x so hurt (Errno e) a c = refused_step e (so e a.exactly) c.counted
    failed_step x so hurt Fault a c = step_fault m reply s s1 steady f0 f1 hurt left c.counted.0
        c.counted.1
    failed_step x so hurt NoMemory a c = step_no_memory m reply s s1 steady f0 f1 left c.counted

-- what the host tells is the answer
module _ {A : Type 0} (m : Message) (view : A → Reply) (s : ServerState)
    (kept : IsKept s.tree.records (is_named s.fids)) (steady : Bool) (told : Result A ℕ)
    (is : core s m ≡ told_answer s view told) (hurt : IsHurtReply s m (lerror EIO)) where
  pub asked_step : (s1 : ServerState) → s1 ≡ s → (f0 f1 : ℕ) (x : Result A ℕ) → told ≡ x
      → (result : Result A HostError) → Answers x result → Causes steady f0 f1 result
      → IsStep m view s s1 steady f0 f1 result
  asked_step s1 left f0 f1 x same (Ok a) r c =
      told_step m view view s kept steady told is s1 left f0 f1 a a (same ∙ r.exactly) refl
      c.counted
  asked_step s1 left f0 f1 x same (Err e) r c =
      failed_step m view view s kept steady told is s1 left f0 f1 x (λ n none. same ∙ none) hurt e r
      c

-- ---- behind a `?`

module _ {A B : Type 0} (m : Message) (reply : A → Reply) (view : B → Reply) (s : ServerState)
    (kept : IsKept s.tree.records (is_named s.fids)) (steady : Bool) (told : Fid → Result B ℕ)
    (n f : ℕ) (r : Result A HostError) (e : HostError) (passed : IsErrAnd r (λ y. y ≡ e)) where
  -- no fid has the number
  pub unknown_step : core s m ≡ told_answer s view (by_fid told (get s.fids n))
      → Err e ≡ ino_told (get s.fids n) → IsStep m reply s s steady f f r
  unknown_step is none = passed_on (λ (r : Result A HostError). IsStep m reply s s steady f f r) r e
      passed
      (refused_so m reply view s kept steady (by_fid told (get s.fids n)) is s refl f f EBADF e
      (by_unknown told (get s.fids n) e none) refl)

  -- or it isn't open so
  pub unopened_step : (is_open : OpenState → Bool)
      → core s m ≡ told_answer s view (by_open_fid is_open told (get s.fids n))
      → Err e ≡ open_told is_open (get s.fids n) → IsStep m reply s s steady f f r
  unopened_step is_open is none = passed_on (λ (r : Result A HostError). IsStep m reply s s steady f
      f r) r e passed
      (refused_so m reply view s kept steady (by_open_fid is_open told (get s.fids n)) is s refl f f
      EBADF e (by_unopened told is_open (get s.fids n) e none) refl)
