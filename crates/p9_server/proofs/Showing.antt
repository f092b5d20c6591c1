-- What is shown of an inode that a fid names.
use Rattle.std.proofs.Common.{◌≡◌, ℕ, ◌<◌, Bool, refl, sym, ap, ◌∙◌, subst, Option, Some, None}
use Rattle.std.proofs.Common.{Result, Ok, Err, IsSome, arith}
use Rattle.std.specs.Result.{IsErrAnd}
use Rattle.std.proofs.lemmas.Result.{err_from_is_err_and}
use Rattle.std.specs.FinMap.{get}
use Rattle.tree_model.specs.Tree.{Tree, Record}
use Rattle.tree_model.specs.Good.{IsGoodTree}
use Rattle.tree_model.specs.Settings.{Settings, shown_of}
use Rattle.tree_model.specs.Sound.{IsKept}
use Rattle.tree_model.specs.Attributes.{stat_of, attr_of, attr_or_missing}
use Rattle.tree_model.specs.declared.attributes.Attr.{Attr}
use Rattle.tree_model.specs.declared.attributes.HostError.{HostError}
use Rattle.tree_model.specs.declared.attributes.HostError.TheVariants.{Errno, Fault, NoMemory}
use Rattle.tree_host.specs.Holds.{Holds, hold_count}
use Rattle.tree_host.specs.Host.{Answers}
use Rattle.tree_host.specs.Calls.{Causes}
use Rattle.port_base.specs.declared.errno.TheConstants.{EBADF}
use Rattle.p9_tmsg.specs.Messages.{Message}
use Rattle.p9_tmsg.specs.Messages.Message.{getattr}
use Rattle.p9_rmsg.specs.Replies.{Reply}
use Rattle.p9_rmsg.specs.Replies.Reply.{getattr as shown, lerror}
use Rattle.fid_model.specs.Fids.{Fids, Fid, ServerState, kept_state, is_held as is_named}
use Rattle.fid_model.specs.Answers.{answer, getattr_by, getattr_reply, attributes_of}
use Rattle.fid_model.proofs.FidCounts.{fid_count-named}
use Rattle.fid_model.proofs.Keeping.{kept_state_kept}
use Rattle.p9_server.specs.Holding.{AreFids}
use Rattle.p9_server.specs.Steps.{IsStep, server_state, ino_told}
use Rattle.p9_server.proofs.Stepping.{pair, step_ok, step_errno, step_refused, step_fault}
use Rattle.p9_server.proofs.Stepping.{step_no_memory}

-- what the exit of a `?` returns
pub passed_on : {A E : Type 0} (P : Result A E → Type 0) (r : Result A E) (e : E)
    → IsErrAnd r (λ y. y ≡ e) → P (Err e) → P r
passed_on P r e is h = let p = err_from_is_err_and r is in subst P (sym (p.1 ∙ ap Err p.2)) h

-- a step that ends at a `?` is one that ends with its error
pub stopped_step : {A : Type 0} {m : Message} {reply : A → Reply} {s0 s1 : ServerState}
    {steady : Bool} {f0 f1 : ℕ} (r : Result A HostError) (e : HostError) → IsErrAnd r (λ y. y ≡ e)
    → IsStep m reply s0 s1 steady f0 f1 (Err e) → IsStep m reply s0 s1 steady f0 f1 r
stopped_step {A = A} {m = m} {reply = reply} {s0 = s0} {s1 = s1} {steady = steady} {f0 = f0}
    {f1 = f1} r e is h =
    passed_on (λ (r : Result A HostError). IsStep m reply s0 s1 steady f0 f1 r) r e is h

-- ---- fids that are named

named_by : (o : Option Fid) (ino : ℕ) → Ok ino ≡ ino_told o → (f : Fid) × (o ≡ Some f)
    × (f.ino ≡ ino)
named_by None ino e = absurd (cc)
named_by (Some f) ino e = let same : f.ino ≡ ino = cc in (f, refl, same)

refused_by : (o : Option Fid) (e : HostError) → Err e ≡ ino_told o → (o ≡ None) × (e ≡ Errno EBADF)
refused_by None e is = let same : e ≡ Errno EBADF = cc in (refl, same)
refused_by (Some f) e is = absurd (cc)

-- the fid that names an inode
pub named : (fids : Fids) (n ino : ℕ) → Ok ino ≡ ino_told (get fids n) → (f : Fid)
    × (get fids n ≡ Some f) × (f.ino ≡ ino)
named fids n ino e = named_by (get fids n) ino e

pub unnamed : (fids : Fids) (n : ℕ) (e : HostError) → Err e ≡ ino_told (get fids n)
    → (get fids n ≡ None) × (e ≡ Errno EBADF)
unnamed fids n e is = refused_by (get fids n) e is

-- such a fid is there
pub named_there : (fids : Fids) (n ino : ℕ) → Ok ino ≡ ino_told (get fids n) → IsSome (get fids n)
named_there fids n ino e = let f = named fids n ino e in subst (λ (o : Option Fid). IsSome o)
    (sym f.1) refl

-- what a fid names is held
pub named_held : (h : Holds) (fids : Fids) → AreFids h fids → (n ino : ℕ)
    → Ok ino ≡ ino_told (get fids n) → 0 < hold_count h ino
named_held h fids same n ino e =
    let f = named fids n ino e in
    let some = fid_count-named fids n f.0 f.1 in
    let held = same f.0.ino in
    subst (λ i. 0 < hold_count h i) f.2 (omega arith)

-- ---- attributes

mode_by : (t : Tree) → IsGoodTree t → (i : ℕ) (o : Option Record) → get t.records i ≡ o → (a : Attr)
    → Ok a ≡ attr_or_missing i o → a.mode < 4096
mode_by t good i None at a e = absurd (cc)
mode_by t good i (Some r) at a e =
    let same : a ≡ attr_of i r = cc in
    subst (λ (b : Attr). b.mode < 4096) (sym same) (good.records i r at).mode

-- the mode of a stored record is without its type bits
pub mode_below : (t : Tree) → IsGoodTree t → (i : ℕ) (a : Attr) → stat_of t i ≡ Ok a → a.mode < 4096
mode_below t good i a e = mode_by t good i (get t.records i) refl a (sym e)

abbrev pub shows : Attr → Reply
shows a = shown (attributes_of a)

module _ (t : Tree) (fids : Fids) (msize : ℕ) (settings : Settings) (n : ℕ)
    (kept : IsKept t.records (is_named fids)) (steady : Bool) where
  abbrev pub state : ServerState
  state = server_state t fids msize settings

  pub unknown_step : (f : ℕ) (e : HostError) → Err e ≡ ino_told (get fids n)
      → IsStep (getattr n 0) shows state state steady f f (Err e)
  unknown_step f e is =
      let none = unnamed fids n e is in
      subst (λ (e : HostError). IsStep (getattr n 0) shows state state steady f f (Err e))
      (sym none.1)
      (step_refused (getattr n 0) shows state state steady f f EBADF
      (ap (λ (o : Option Fid). pair (getattr_by state o) state) none.0) kept refl refl)

  module _ (ino : ℕ) (known : Ok ino ≡ ino_told (get fids n)) (t' : Tree) (same : t' ≡ t)
      (f0 f1 : ℕ) where
    abbrev after : ServerState
    after = server_state t' fids msize settings

    after_same : after ≡ state
    after_same j = server_state (same j) fids msize settings

    told : (r : Result Attr ℕ) → stat_of t ino ≡ r
        → answer state (getattr n 0) ≡ pair (getattr_reply settings r) state
    told r is =
        let f = named fids n ino known in
        ap (λ (o : Option Fid). pair (getattr_by state o) (kept_state state)) f.1
        ∙ ap (λ (i : ℕ). pair (getattr_reply settings (stat_of t i)) (kept_state state)) f.2
        ∙ ap (λ (r : Result Attr ℕ). pair (getattr_reply settings r) (kept_state state)) is
        ∙ (λ j. pair (getattr_reply settings r) (kept_state_kept state kept j))

    pub shown_step : (a b : Attr) → stat_of t ino ≡ Ok a → b ≡ shown_of settings a → f1 ≡ f0
        → IsStep (getattr n 0) shows state after steady f0 f1 (Ok b)
    shown_step a b is seen count = step_ok (getattr n 0) shows state after steady f0 f1 b
        ((λ j. pair (shows (seen j)) (after_same j)) ∙ sym (told (Ok a) is)) count

    pub failed_step : (e : HostError) → Answers (stat_of t ino) (Err e)
        → Causes {A = Attr} steady f0 f1 (Err e)
        → IsStep (getattr n 0) shows state after steady f0 f1 (Err e)
    failed_step (Errno e) a c = step_errno (getattr n 0) shows state after steady f0 f1 e
        ((λ j. pair (lerror e) (after_same j)) ∙ sym (told (Err e) a.exactly)) c.counted
    failed_step Fault a c = step_fault (getattr n 0) shows state after steady f0 f1 refl after_same
        c.counted.0 c.counted.1
    failed_step NoMemory a c = step_no_memory (getattr n 0) shows state after steady f0 f1
        after_same c.counted
