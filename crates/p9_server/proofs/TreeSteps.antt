-- Messages that ask the host for one change of the tree: what is asked of fids and names comes
-- first, then the call.
use Rattle.std.proofs.Common.{◌≡◌, ℕ, Bool, List, refl, sym, ap, ◌∙◌, subst, Option, Some}
use Rattle.std.proofs.Common.{None, Result, Ok, Err}
use Rattle.std.specs.Prelude.{nat_lt}
use Rattle.std.specs.FinMap.{get}
use Rattle.port_base.specs.Names.{name_fault}
use Rattle.port_base.specs.declared.errno.TheConstants.{EIO}
use Rattle.tree_model.specs.Tree.{Tree}
use Rattle.tree_model.specs.Sound.{IsKept}
use Rattle.tree_model.specs.Settings.{Settings}
use Rattle.tree_model.specs.declared.attributes.HostError.{HostError}
use Rattle.tree_model.specs.declared.attributes.HostError.TheVariants.{Errno, Fault, NoMemory}
use Rattle.tree_host.specs.Holds.{Holds, is_held}
use Rattle.tree_host.specs.Host.{Leaves, as_errno}
use Rattle.tree_host.specs.Calls.{Causes}
use Rattle.p9_tmsg.specs.Messages.{Message}
use Rattle.p9_rmsg.specs.Replies.{Reply}
use Rattle.p9_rmsg.specs.Replies.Reply.{lerror}
use Rattle.fid_model.specs.Fids.{Fid, Fids, ServerState, kept_state, is_held as is_named}
use Rattle.fid_model.specs.TreeCalls.{at_fid, tree_answer, unless_fault, unless_some}
use Rattle.fid_model.specs.Answers.{core}
use Rattle.fid_model.specs.Handling.{IsHurtReply}
use Rattle.fid_model.proofs.Keeping.{kept_state_kept}
use Rattle.p9_server.specs.Holding.{AreFids}
use Rattle.p9_server.specs.Steps.{IsStep, server_state, ino_told}
use Rattle.p9_server.proofs.HoldCounts.{kept_named}
use Rattle.p9_server.proofs.Stepping.{pair, step_ok, step_refused, step_fault, step_no_memory}

-- ---- fids and names

-- an error is the refusal that a definition gives
abbrev pub Refuses : {A : Type 0} → HostError → Result A ℕ → Type 0
Refuses e told = (k : ℕ) × (e ≡ Errno k) × (told ≡ Err k)

fid_by : {A : Type 0} (o : Option Fid) (told : ℕ → Result A ℕ) (ino : ℕ) → Ok ino ≡ ino_told o
    → at_fid o told ≡ told ino
fid_by None told ino is = absurd (cc)
fid_by (Some f) told ino is = let same : f.ino ≡ ino = cc in ap told same

no_fid_by : {A : Type 0} (o : Option Fid) (told : ℕ → Result A ℕ) (e : HostError)
    → Err e ≡ ino_told o → Refuses e (at_fid o told)
no_fid_by None told e is = let same : e ≡ Errno 9 = cc in (9, same, refl)
no_fid_by (Some f) told e is = absurd (cc)

asked_by : {A : Type 0} (o : Option Fid) (fault : Option ℕ) (told : ℕ → Result A ℕ) (ino : ℕ)
    → Ok ino ≡ as_errno (at_fid o (λ i. unless_some fault (Ok i)))
    → at_fid o (λ i. unless_some fault (told i)) ≡ told ino
asked_by None fault told ino is = absurd (cc)
asked_by (Some f) (Some e) told ino is = absurd (cc)
asked_by (Some f) None told ino is = let same : f.ino ≡ ino = cc in ap told same

not_asked_by : {A : Type 0} (o : Option Fid) (fault : Option ℕ) (told : ℕ → Result A ℕ)
    (e : HostError) → Err e ≡ as_errno (at_fid o (λ i. unless_some fault (Ok i)))
    → Refuses e (at_fid o (λ i. unless_some fault (told i)))
not_asked_by None fault told e is = let same : e ≡ Errno 9 = cc in (9, same, refl)
not_asked_by (Some f) (Some k) told e is = let same : e ≡ Errno k = cc in (k, same, refl)
not_asked_by (Some f) None told e is = absurd (cc)

good_by : (o : Option Fid) (fault : Option ℕ) (ino : ℕ)
    → Ok ino ≡ as_errno (at_fid o (λ i. unless_some fault (Ok i))) → (fault ≡ None)
    × (Ok ino ≡ ino_told o)
good_by None fault ino is = absurd (cc)
good_by (Some f) (Some e) ino is = absurd (cc)
good_by (Some f) None ino is = let same : f.ino ≡ ino =
    cc in (refl, sym (ap (λ (i : ℕ). let r : Result ℕ HostError = Ok i in r) same))

checked_by : {A : Type 0} (fault : Option ℕ) (told : Result A ℕ)
    → ◌≡◌ {A = Result (Unit {0}) HostError} (Ok tt) (as_errno (unless_some fault (Ok tt)))
    → (fault ≡ None) × (unless_some fault told ≡ told)
checked_by (Some e) told is = absurd (cc)
checked_by None told is = (refl, refl)

unchecked_by : {A : Type 0} (fault : Option ℕ) (told : Result A ℕ) (e : HostError)
    → ◌≡◌ {A = Result (Unit {0}) HostError} (Err e) (as_errno (unless_some fault (Ok tt)))
    → Refuses e (unless_some fault told)
unchecked_by (Some k) told e is = let same : e ≡ Errno k = cc in (k, same, refl)
unchecked_by None told e is = absurd (cc)

module _ {A : Type 0} (fids : Fids) (n : ℕ) (told : ℕ → Result A ℕ) where
  -- what is told where a fid is there
  pub at_known : (ino : ℕ) → Ok ino ≡ ino_told (get fids n) → at_fid (get fids n) told ≡ told ino
  at_known = fid_by (get fids n) told

  pub at_unknown : (e : HostError) → Err e ≡ ino_told (get fids n)
      → Refuses e (at_fid (get fids n) told)
  at_unknown = no_fid_by (get fids n) told

  -- and where a name has no fault
  module _ (name : List ℕ) where
    pub at_named : (ino : ℕ) → Ok ino ≡ as_errno
        (at_fid (get fids n) (λ i. unless_fault name (Ok i)))
        → at_fid (get fids n) (λ i. unless_fault name (told i)) ≡ told ino
    at_named = asked_by (get fids n) (name_fault name) told

    pub at_unnamed : (e : HostError) → Err e ≡ as_errno
        (at_fid (get fids n) (λ i. unless_fault name (Ok i)))
        → Refuses e (at_fid (get fids n) (λ i. unless_fault name (told i)))
    at_unnamed = not_asked_by (get fids n) (name_fault name) told

-- the name has no fault, and the fid is there
pub good_name : (fids : Fids) (n : ℕ) (name : List ℕ) (ino : ℕ)
    → Ok ino ≡ as_errno (at_fid (get fids n) (λ i. unless_fault name (Ok i)))
    → (name_fault name ≡ None) × (Ok ino ≡ ino_told (get fids n))
good_name fids n name ino = good_by (get fids n) (name_fault name) ino

pub name_checked : {A : Type 0} (name : List ℕ) (told : Result A ℕ)
    → ◌≡◌ {A = Result (Unit {0}) HostError} (Ok tt) (as_errno (unless_fault name (Ok tt)))
    → (name_fault name ≡ None) × (unless_fault name told ≡ told)
name_checked name told = checked_by (name_fault name) told

pub name_unchecked : {A : Type 0} (name : List ℕ) (told : Result A ℕ) (e : HostError)
    → ◌≡◌ {A = Result (Unit {0}) HostError} (Err e) (as_errno (unless_fault name (Ok tt)))
    → Refuses e (unless_fault name told)
name_unchecked name told = unchecked_by (name_fault name) told

-- ---- what is kept

-- what a host keeps is what the fids keep, where no hold changed
pub kept_after : (h h' : Holds) → h' ≡ h → (fids : Fids) → AreFids h fids → (t : Tree)
    → IsKept t.records (is_held h') → IsKept t.records (is_named fids)
kept_after h h' same fids held t kept = kept_named h' fids
    (subst (λ (k : Holds). AreFids k fids) (sym same) held) t kept

-- a test of holds is that of fids
pub held_alike : (h : Holds) (fids : Fids) → AreFids h fids → is_held h ≡ is_named fids
held_alike h fids held = λ j i. nat_lt 0 (held i j)

-- ---- the step

module _ {A B : Type 0} (m : Message) (reply : A → Reply) (told_reply : B → Reply) (t : Tree)
    (fids : Fids) (msize : ℕ) (settings : Settings) (steady : Bool)
    (told : Result (A × Tree) ℕ) where
  abbrev pub state : ServerState
  state = server_state t fids msize settings

  module _ (core_is : core state m ≡ tree_answer state reply told)
      (kept : IsKept t.records (is_named fids)) where
    -- a refusal before the host is asked
    pub refused_step : (e : HostError) → Refuses e told → (f : ℕ)
        → IsStep m told_reply state state steady f f (Err e)
    refused_step e r f =
        subst (λ (e : HostError). IsStep m told_reply state state steady f f (Err e)) (sym r.1)
        (step_refused m told_reply state state steady f f r.0
        (core_is ∙ ap (tree_answer state reply) r.2) kept refl refl)

    module _ (hurt : IsHurtReply state m (lerror EIO)) (t' : Tree) (f0 f1 : ℕ) where
      abbrev after : ServerState
      after = server_state t' fids msize settings

      abbrev after_same : t' ≡ t → after ≡ state
      after_same same = λ j. server_state (same j) fids msize settings

      pub failed_step : (e : HostError) → Leaves told t t' (Err e)
          → Causes {A = A} steady f0 f1 (Err e)
          → IsStep m told_reply state after steady f0 f1 (Err e)
      failed_step (Errno e) l c = step_refused m told_reply state after steady f0 f1 e
          (core_is ∙ ap (tree_answer state reply) l.exactly.0) kept (after_same l.exactly.1)
          c.counted
      failed_step Fault l c = step_fault m told_reply state after steady f0 f1 hurt
          (after_same l.exactly) c.counted.0 c.counted.1
      failed_step NoMemory l c = step_no_memory m told_reply state after steady f0 f1
          (after_same l.exactly) c.counted

      module _ (kept' : IsKept t'.records (is_named fids)) where
        pub done_step : (a : A) (b : B) → Leaves told t t' (Ok a) → told_reply b ≡ reply a → f1 ≡ f0
            → IsStep m told_reply state after steady f0 f1 (Ok b)
        done_step a b l seen count = step_ok m told_reply state after steady f0 f1 b
            ((λ j. pair (seen j) after) ∙ (λ j. pair (reply a)
            (sym (kept_state_kept after kept') j))
            ∙ sym (ap (λ (x : Reply × ServerState). pair x.0 (kept_state x.1))
            (core_is ∙ ap (tree_answer state reply) l.exactly))) count

-- the host's answer is passed on
module _ {A : Type 0} (m : Message) (reply : A → Reply) (t : Tree) (fids : Fids) (msize : ℕ)
    (settings : Settings) (steady : Bool) (told : Result (A × Tree) ℕ) where
  pub passed_step : core (server_state t fids msize settings) m ≡ tree_answer
      (server_state t fids msize settings) reply told → IsKept t.records (is_named fids)
      → IsHurtReply (server_state t fids msize settings) m (lerror EIO) → (t' : Tree) (f0 f1 : ℕ)
      → IsKept t'.records (is_named fids) → (r : Result A HostError) → Leaves told t t' r
      → Causes steady f0 f1 r
      → IsStep m reply (server_state t fids msize settings) (server_state t' fids msize settings)
      steady f0 f1 r
  passed_step core_is kept hurt t' f0 f1 kept' (Ok a) l c =
      done_step m reply reply t fids msize settings steady told core_is kept hurt t' f0 f1 kept' a a
      l refl c.counted
  passed_step core_is kept hurt t' f0 f1 kept' (Err e) l c =
      failed_step m reply reply t fids msize settings steady told core_is kept hurt t' f0 f1 e l c
