-- A new fid for the root of the share.
use Rattle.std.proofs.Common.{◌≡◌, ℕ, ◌<◌, Bool, true, false, cond, [], refl, sym, ap, ◌∙◌, subst}
use Rattle.std.proofs.Common.{Option, Some, None, Result, Ok, Err, arith}
use Rattle.std.specs.Prelude.{nat_le}
use Rattle.std.proofs.lemmas.Bool.Decides.{nat_tests}
use Rattle.std.specs.FinMap.{insert, len, contains_key}
use Rattle.tree_model.specs.Tree.{Tree, keep}
use Rattle.tree_model.specs.Settings.{Settings}
use Rattle.tree_model.specs.Sound.{IsKept}
use Rattle.tree_model.specs.Finding.{root_of}
use Rattle.tree_model.specs.Attributes.{qid_of, stat_of}
use Rattle.tree_model.specs.declared.attributes.Attr.{Attr}
use Rattle.tree_model.specs.declared.attributes.HostError.{HostError}
use Rattle.tree_model.specs.declared.attributes.HostError.TheVariants.{Errno, Fault, NoMemory}
use Rattle.tree_host.specs.Calls.{Causes}
use Rattle.port_base.specs.declared.errno.TheConstants.{EBADF, ENFILE}
use Rattle.p9_wire.specs.declared.qid.Qid.{Qid as QidStruct}
use Rattle.p9_wire.specs.Qids.{qid_of as qid_plain}
use Rattle.p9_tmsg.specs.Messages.Message.{attach}
use Rattle.p9_rmsg.specs.Replies.{Reply}
use Rattle.p9_rmsg.specs.Replies.Reply.{attach as attached, lerror}
use Rattle.fid_model.specs.Fids.{Fids, ServerState, closed, kept_state, is_held as is_named}
use Rattle.fid_model.specs.Answers.{attach_core, attached as attached_by, qid_told}
use Rattle.fid_model.proofs.Keeping.{kept_state_kept}
use Rattle.p9_server.specs.Walking.{Finds}
use Rattle.p9_server.specs.Steps.{IsStep, server_state, attach_refused}
use Rattle.p9_server.proofs.Stepping.{pair, step_ok, step_refused, step_fault, step_no_memory}

abbrev pub attaches : QidStruct → Reply
attaches q = attached (qid_plain q)

-- ---- the refusals

told_by : {A : Type 0} → (Option ℕ → A) → Bool → Bool → A
told_by f known full = f (cond known (Some EBADF) (cond full (Some ENFILE) None))

abbrev core_by : ServerState → ℕ → Option ℕ → Reply × ServerState
core_by s fid None = attached_by s fid (root_of s.tree s.settings.root)
core_by s fid (Some e) = (lerror e, s)

core_cases : (s : ServerState) (fid : ℕ) (known full : Bool) →
    cond known (pair (lerror EBADF) s) (cond full (pair (lerror ENFILE) s)
    (attached_by s fid (root_of s.tree s.settings.root))) ≡ core_by s fid
    (cond known (Some EBADF) (cond full (Some ENFILE) None))
core_cases s fid true full = refl
core_cases s fid false true = refl
core_cases s fid false false = refl

core_is : (s : ServerState) (fid : ℕ) → attach_core s fid ≡ core_by s fid
    (attach_refused s.fids s.settings.limit fid)
core_is s fid = core_cases s fid (contains_key s.fids fid) (nat_le s.settings.limit (len s.fids))

room_by : (known full : Bool) → None ≡ cond known (Some EBADF) (cond full (Some ENFILE) None)
    → full ≡ false
room_by true full e = absurd (cc)
room_by false true e = absurd (cc)
room_by false false e = refl

below : (l n : ℕ) → nat_le l n ≡ false → n < l
below l n e = grind (arith, nat_tests)

-- where nothing is refused there is room for a fid
pub attach_room : (fids : Fids) (limit fid : ℕ) → None ≡ attach_refused fids limit fid
    → len fids < limit
attach_room fids limit fid e = below limit (len fids)
    (room_by (contains_key fids fid) (nat_le limit (len fids)) e)

module _ (t : Tree) (fids : Fids) (msize : ℕ) (settings : Settings) (n : ℕ)
    (kept : IsKept t.records (is_named fids)) (steady : Bool) where
  abbrev pub state : ServerState
  state = server_state t fids msize settings

  pub attach_unknown : (e f : ℕ) → Some e ≡ attach_refused fids settings.limit n
      → IsStep (attach n 0 [] [] 0) attaches state state steady f f (Err (Errno e))
  attach_unknown e f is = step_refused (attach n 0 [] [] 0) attaches state state steady f f e
      (core_is state n ∙ ap (core_by state n) (sym is)) kept refl refl

  module _ (allowed : None ≡ attach_refused fids settings.limit n) (t' : Tree) (f0 f1 : ℕ) where
    core_root : (r : Result ℕ ℕ) → root_of t settings.root ≡ r
        → attach_core state n ≡ attached_by state n r
    core_root r is = core_is state n ∙ ap (core_by state n) (sym allowed)
        ∙ ap (attached_by state n) is

    pub attach_failed : t' ≡ t → (e : HostError) → Finds t (root_of t settings.root) (Err e)
        → Causes {A = Attr} steady f0 f1 (Err e)
        → IsStep (attach n 0 [] [] 0) attaches state (server_state t' fids msize settings) steady f0
        f1 (Err e)
    attach_failed same (Errno e) f c = step_refused (attach n 0 [] [] 0) attaches state
        (server_state t' fids msize settings) steady f0 f1 e (core_root (Err e) f.exactly) kept
        (λ j. server_state (same j) fids msize settings) c.counted
    attach_failed same Fault f c = step_fault (attach n 0 [] [] 0) attaches state
        (server_state t' fids msize settings) steady f0 f1 refl
        (λ j. server_state (same j) fids msize settings) c.counted.0 c.counted.1
    attach_failed same NoMemory f c = step_no_memory (attach n 0 [] [] 0) attaches state
        (server_state t' fids msize settings) steady f0 f1
        (λ j. server_state (same j) fids msize settings) c.counted

    module _ (a : Attr) (finds : Finds t (root_of t settings.root) (Ok a)) (fids' : Fids)
        (swept : t' ≡ keep (is_named fids') t) (count : f1 ≡ f0) where
      pub attach_done : (q : QidStruct) → fids' ≡ insert fids n (closed a.ino)
          → qid_plain q ≡ qid_of a
          → IsStep (attach n 0 [] [] 0) attaches state (server_state t' fids' msize settings) steady
          f0 f1 (Ok q)
      attach_done q is seen = step_ok (attach n 0 [] [] 0) attaches state
          (server_state t' fids' msize settings) steady f0 f1 q
          ((λ j. pair (attached ((seen ∙ sym (ap qid_told finds.exactly.1)) j))
          (server_state (swept j) fids' msize settings))
          ∙ (λ j. pair (attached (qid_told (stat_of t a.ino)))
          (kept_state (server_state t (is j) msize settings)))
          ∙ sym (ap (λ (x : Reply × ServerState). pair x.0 (kept_state x.1))
          (core_root (Ok a.ino) finds.exactly.0))) count

      pub attach_no_memory : (e : HostError) → fids' ≡ fids
          → ◌≡◌ {A = Result (Unit {0}) HostError} (Err e) (Err NoMemory)
          → IsStep (attach n 0 [] [] 0) attaches state (server_state t' fids' msize settings) steady
          f0 f1 (Err e)
      attach_no_memory e is none =
          let memory : e ≡ NoMemory = cc in
          let same : server_state t' fids' msize settings ≡ state =
          (λ j. server_state (swept j) fids' msize settings)
          ∙ (λ j. kept_state (server_state t (is j) msize settings))
          ∙ kept_state_kept state kept in
          subst (λ (d : HostError). IsStep (attach n 0 [] [] 0) attaches state
          (server_state t' fids' msize settings) steady f0 f1 (Err d)) (sym memory)
          (step_no_memory (attach n 0 [] [] 0) attaches state (server_state t' fids' msize settings)
          steady f0 f1 same count)
