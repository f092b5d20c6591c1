-- A walk of the server: where it begins, what it tells, and the fid that it gives.
use Rattle.std.proofs.Common.{◌≡◌, ◌≢◌, ◌⊎◌, inl, inr, ⊎_elim, ℕ, ◌<◌, ◌≤◌, Bool, true, false, cond}
use Rattle.std.proofs.Common.{not, ◌&&◌, List, [], ◌∷◌, length, map, refl, sym, ap, ◌∙◌, subst}
use Rattle.std.proofs.Common.{Option, Some, None, Result, Ok, Err, IfOk, IfErr, arith}
use Rattle.std.specs.Prelude.{◌==◌, nat_le, nat_lt, is_some}
use Rattle.std.proofs.lemmas.Bool.Decides.{nat_tests}
use Rattle.std.proofs.lemmas.List.{length-map}
use Rattle.std.specs.FinMap.{get, insert, len, contains_key}
use Rattle.tree_model.specs.Tree.{Tree, keep}
use Rattle.tree_model.specs.Settings.{Settings}
use Rattle.tree_model.specs.Sound.{IsKept}
use Rattle.tree_model.specs.Attributes.{Qid}
use Rattle.tree_model.specs.declared.attributes.HostError.{HostError}
use Rattle.tree_model.specs.declared.attributes.HostError.TheVariants.{Errno, Fault, NoMemory}
use Rattle.tree_host.specs.Holds.{Holds, hold_count}
use Rattle.tree_host.specs.Calls.{Causes}
use Rattle.port_base.specs.declared.errno.TheConstants.{EBADF, EINVAL, ENFILE}
use Rattle.p9_wire.specs.declared.qid.Qid.{Qid as QidStruct}
use Rattle.p9_wire.specs.Qids.{qid_of as qid_plain}
use Rattle.p9_tmsg.specs.Messages.Message.{walk}
use Rattle.p9_rmsg.specs.Replies.{Reply}
use Rattle.p9_rmsg.specs.Replies.Reply.{walk as walked, lerror}
use Rattle.p9_wire.specs.declared.protocol.TheConstants.{P9_MAXWELEM}
use Rattle.fid_model.specs.Fids.{Fids, Fid, ServerState, closed, kept_state, is_held as is_named}
use Rattle.fid_model.specs.Handling.{IsFrontOfWalk}
use Rattle.fid_model.specs.Answers.{walk_core, walk_from, walk_answer, walk_names}
use Rattle.fid_model.proofs.FidCounts.{fid_count-named}
use Rattle.fid_model.proofs.Keeping.{kept_state_kept}
use Rattle.p9_server.specs.Holding.{AreFids}
use Rattle.p9_server.specs.Walking.{Walks}
use Rattle.p9_server.specs.Steps.{IsStep, server_state, start_from, walk_start}
use Rattle.fid_model.proofs.Moments.{same_alone}
use Rattle.p9_server.proofs.Stepping.{pair, same_part, not_steady, step_ok, step_refused}
use Rattle.p9_server.proofs.Stepping.{step_fault, step_no_memory}

-- ---- where it begins

abbrev core_by : ServerState → ℕ → List (List ℕ) → Result ℕ ℕ → Reply × ServerState
core_by s newfid names (Ok i) = walk_answer s newfid (walk_names s.settings.casefold s.tree names i)
core_by s newfid names (Err e) = (lerror e, s)

some_cases : (s : ServerState) (newfid : ℕ) (names : List (List ℕ)) (i : ℕ) (other_full long : Bool)
    →
    cond other_full (pair (lerror ENFILE) s) (cond long (pair (lerror EINVAL) s)
    (walk_answer s newfid (walk_names s.settings.casefold s.tree names i)))
    ≡ core_by s newfid names (cond other_full (Err ENFILE) (cond long (Err EINVAL) (Ok i)))
some_cases s newfid names i true long = refl
some_cases s newfid names i false true = refl
some_cases s newfid names i false false = refl

from_cases : (s : ServerState) (fid newfid : ℕ) (names : List (List ℕ)) (o : Option Fid) →
    walk_from s fid newfid names o ≡ core_by s newfid names
    (start_from (newfid == fid) (nat_le s.settings.limit (len s.fids)) (length names) o)
from_cases s fid newfid names None = refl
from_cases s fid newfid names (Some f) = some_cases s newfid names f.ino
    (not (newfid == fid) && nat_le s.settings.limit (len s.fids))
    (nat_lt P9_MAXWELEM (length names))

known_cases : (s : ServerState) (newfid : ℕ) (names : List (List ℕ)) (known : Bool) (r : Result ℕ ℕ)
    →
    cond known (pair (lerror EBADF) s) (core_by s newfid names r) ≡ core_by s newfid names
    (cond known (Err EBADF) r)
known_cases s newfid names true r = refl
known_cases s newfid names false r = refl

core_is : (s : ServerState) (fid newfid : ℕ) (names : List (List ℕ))
    → walk_core s fid newfid names ≡ core_by s newfid names
    (walk_start s.fids s.settings.limit fid newfid (length names))
core_is s fid newfid names =
    ap (cond (not (newfid == fid) && contains_key s.fids newfid) (pair (lerror EBADF) s))
    (from_cases s fid newfid names (get s.fids fid))
    ∙ known_cases s newfid names (not (newfid == fid) && contains_key s.fids newfid)
    (start_from (newfid == fid) (nat_le s.settings.limit (len s.fids)) (length names)
    (get s.fids fid))

-- what a start says: the fid is known, a new one has room, and the names are few
record Starts (fids : Fids) (limit fid newfid count start : ℕ) : Type 0 where
  fid_state : Fid
  known : get fids fid ≡ Some fid_state
  ino : fid_state.ino ≡ start
  room : contains_key fids newfid ≡ false → len fids < limit
  short : count ≤ 16

below : (l n : ℕ) → nat_le l n ≡ false → n < l
below l n e = grind (arith, nat_tests)

short_of : (n : ℕ) → nat_lt P9_MAXWELEM n ≡ false → n ≤ 16
short_of n e = grind (arith, nat_tests)

same_fid : (fids : Fids) (fid newfid : ℕ) (f : Fid) → get fids fid ≡ Some f → (newfid == fid) ≡ true
    → contains_key fids newfid ≡ true
same_fid fids fid newfid f at same = let is : newfid ≡ fid =
    grind (arith, nat_tests) in ap (contains_key fids) is ∙ ap is_some at

room_by : (fids : Fids) (limit fid newfid : ℕ) (f : Fid) → get fids fid ≡ Some f → (same : Bool)
    → (newfid == fid) ≡ same → (not same && nat_le limit (len fids)) ≡ false
    → contains_key fids newfid ≡ false → len fids < limit
room_by fids limit fid newfid f at true is unfilled absent = let there =
    same_fid fids fid newfid f at is in absurd (cc)
room_by fids limit fid newfid f at false is unfilled absent = below limit (len fids) unfilled

some_starts : (fids : Fids) (limit fid newfid count start : ℕ) (f : Fid) → get fids fid ≡ Some f
    → (full long : Bool)
    → (not (newfid == fid) && nat_le limit (len fids)) ≡ full → nat_lt P9_MAXWELEM count ≡ long
    → Ok start ≡ cond full (Err ENFILE) (cond long (Err EINVAL) (Ok f.ino))
    → Starts fids limit fid newfid count start
some_starts fids limit fid newfid count start f at true long full_is long_is e = absurd (cc)
some_starts fids limit fid newfid count start f at false true full_is long_is e = absurd (cc)
some_starts fids limit fid newfid count start f at false false full_is long_is e = record {
  fid_state = f;
  known = at;
  ino = let same : f.ino ≡ start = cc in same;
  room = room_by fids limit fid newfid f at (newfid == fid) refl full_is;
  short = short_of count long_is;
}

from_starts : (fids : Fids) (limit fid newfid count start : ℕ) (o : Option Fid) → get fids fid ≡ o
    → Ok start ≡ start_from (newfid == fid) (nat_le limit (len fids)) count o
    → Starts fids limit fid newfid count start
from_starts fids limit fid newfid count start None at e = absurd (cc)
from_starts fids limit fid newfid count start (Some f) at e =
    some_starts fids limit fid newfid count start f at
    (not (newfid == fid) && nat_le limit (len fids)) (nat_lt P9_MAXWELEM count) refl refl e

known_starts : (fids : Fids) (limit fid newfid count start : ℕ) (known : Bool)
    → Ok start ≡ cond known (Err EBADF) (start_from (newfid == fid) (nat_le limit (len fids)) count
    (get fids fid)) → Starts fids limit fid newfid count start
known_starts fids limit fid newfid count start true e = absurd (cc)
known_starts fids limit fid newfid count start false e =
    from_starts fids limit fid newfid count start (get fids fid) refl e

module _ (fids : Fids) (limit fid newfid count start : ℕ)
    (is : Ok start ≡ walk_start fids limit fid newfid count) where
  starts : Starts fids limit fid newfid count start
  starts = known_starts fids limit fid newfid count start
      (not (newfid == fid) && contains_key fids newfid) is

  pub start_held : (h : Holds) → AreFids h fids → 0 < hold_count h start
  start_held h same =
      let s = starts in
      let some = fid_count-named fids fid s.fid_state s.known in
      let held = same s.fid_state.ino in
      subst (λ i. 0 < hold_count h i) s.ino (omega arith)

  pub start_room : contains_key fids newfid ≡ false → len fids < limit
  start_room = starts.room

  pub start_short : count ≤ 16
  start_short = starts.short

-- ---- what it tells

abbrev pub walks : {V : Type 0} → (V → List QidStruct) → V → Reply
walks items v = walked (map qid_plain (items v))

stopped_told : (s : ServerState) (newfid e : ℕ) (qids : List Qid) → 1 ≤ length qids
    → walk_answer s newfid (qids, Err e) ≡ pair (walked qids) s
stopped_told s newfid e [] some = absurd (omega arith)
stopped_told s newfid e (q ∷ qids) some = refl

no_qids : (qids : List QidStruct) → qids ≡ [] → map qid_plain qids ≡ []
no_qids qids e = ap (map qid_plain) e

module _ {V : Type 0} (items : V → List QidStruct) (t : Tree) (fids : Fids) (msize : ℕ)
    (settings : Settings) (fid newfid : ℕ)
    (names : List (List ℕ)) (kept : IsKept t.records (is_named fids)) (steady : Bool) where
  abbrev pub state : ServerState
  state = server_state t fids msize settings

  pub walk_unstarted : (e f : ℕ) → Err e ≡ walk_start fids settings.limit fid newfid (length names)
      → IsStep (walk fid newfid names) (walks items) state state steady f f (Err (Errno e))
  walk_unstarted e f is = step_refused (walk fid newfid names) (walks items) state state steady f f
      e (core_is state fid newfid names ∙ ap (core_by state newfid names) (sym is)) kept refl refl

  pub walk_unstarted_memory : (f : ℕ) → IsStep (walk fid newfid names) (walks items) state state
      steady f f (Err NoMemory)
  walk_unstarted_memory f = step_no_memory (walk fid newfid names) (walks items) state state steady
      f f refl refl

  module _ (start : ℕ) (begins : Ok start ≡ walk_start fids settings.limit fid newfid
      (length names)) (t' : Tree) (f0 f1 : ℕ) where
    core_start : walk_core state fid newfid names ≡ walk_answer state newfid
        (walk_names settings.casefold t names start)
    core_start = core_is state fid newfid names ∙ ap (core_by state newfid names) (sym begins)

    module _ (v : V) (same : t' ≡ t) where
      abbrev after : ServerState
      after = server_state t' fids msize settings

      after_same : after ≡ state
      after_same j = server_state (same j) fids msize settings

      stopped_core : (e : ℕ) → (map qid_plain (items v)
          ≡ (walk_names settings.casefold t names start).0)
          × ((walk_names settings.casefold t names start).1 ≡ Err e)
          → walk_core state fid newfid names ≡ walk_answer state newfid
          (map qid_plain (items v), Err e)
      stopped_core e w = core_start ∙ (λ j. walk_answer state newfid (sym w.0 j, w.1 j))

      -- a walk that stops after some names tells their qids
      pub walk_some : 1 ≤ length (items v) → (e : HostError) → e ≢ NoMemory
          → Walks settings.casefold t names start (map qid_plain (items v)) (Err e)
          → Causes {A = ℕ} steady f0 f1 (Err e)
          → IsStep (walk fid newfid names) (walks items) state after steady f0 f1 (Ok v)
      walk_some some (Errno e) no_memory w c =
          let many : 1 ≤ length (map qid_plain (items v)) = let l =
          length-map (items v) qid_plain in omega arith in
          let told : walk_core state fid newfid names ≡ pair (walks items v) state =
          stopped_core e w.exactly ∙ stopped_told state newfid e (map qid_plain (items v)) many
          in
          step_ok (walk fid newfid names) (walks items) state after steady f0 f1 v
          ((λ j. pair (walks items v) (after_same j))
          ∙ (λ j. pair (walks items v) (sym (kept_state_kept state kept) j))
          ∙ sym (ap (λ (x : Reply × ServerState). pair x.0 (kept_state x.1)) told)) c.counted
      walk_some some Fault no_memory w c =
          let many : 1 ≤ length (map qid_plain (items v)) = let l =
          length-map (items v) qid_plain in omega arith in
          let front = w.exactly many in
          let s = starts fids settings.limit fid newfid (length names) start begins in
          let from = subst (λ (i : ℕ). IsFrontOfWalk settings.casefold t names i
          (map qid_plain (items v))) (sym s.ino) front.1 in
          record {
            answer = inr (
              c.counted.0.1,
              inr (many, front.0, (s.fid_state, s.known, from)),
              same_alone state after after_same,
              same_part state (walk fid newfid names) after
                  after_same,
            );
            rises = c.counted.0.0;
            steadily = not_steady steady f0 f1 c.counted.1;
          }
      walk_some some NoMemory no_memory w c = absurd (no_memory refl)

      -- one that stops before, why it does
      pub walk_none : (e : HostError) → (items v ≡ []) ⊎ (e ≡ NoMemory)
          → Walks settings.casefold t names start (map qid_plain (items v)) (Err e)
          → Causes {A = ℕ} steady f0 f1 (Err e)
          → IsStep (walk fid newfid names) (walks items) state after steady f0 f1 (Err e)
      walk_none (Errno e) none w c =
          let empty : map qid_plain (items v) ≡ [] =
          ⊎_elim (λ e. no_qids (items v) e) (λ e. absurd (cc)) none in
          step_refused (walk fid newfid names) (walks items) state after steady f0 f1 e
          (stopped_core e w.exactly ∙ ap (λ (q : List Qid). walk_answer state newfid (q, Err e))
          empty) kept after_same c.counted
      walk_none Fault none w c = step_fault (walk fid newfid names) (walks items) state after steady
          f0 f1 (inl refl) after_same c.counted.0 c.counted.1
      walk_none NoMemory none w c = step_no_memory (walk fid newfid names) (walks items) state after
          steady f0 f1 after_same c.counted

      -- what is told of a walk that stopped
      pub walk_stopped : (e : HostError) (r : Result V HostError)
          → IfOk r (λ q. (q ≡ v) × (1 ≤ length (items v)) × (e ≢ NoMemory))
          → IfErr r (λ d. (d ≡ e) × ((items v ≡ []) ⊎ (e ≡ NoMemory)))
          → Walks settings.casefold t names start (map qid_plain (items v)) (Err e)
          → Causes {A = ℕ} steady f0 f1 (Err e)
          → IsStep (walk fid newfid names) (walks items) state after steady f0 f1 r
      walk_stopped e (Ok q) told failed w c =
          subst (λ (x : V). IsStep (walk fid newfid names) (walks items) state after steady f0 f1
          (Ok x)) (sym told.0) (walk_some told.1 e told.2 w c)
      walk_stopped e (Err d) told failed w c =
          subst (λ (x : HostError). IsStep (walk fid newfid names) (walks items) state after steady
          f0 f1 (Err x)) (sym failed.0) (walk_none e failed.1 w c)

    module _ (fids' : Fids) (swept : t' ≡ keep (is_named fids') t) (count : f1 ≡ f0) where
      -- the whole walk gives the new fid its inode
      pub walk_done : (v : V) (at : ℕ) → Walks settings.casefold t names start
          (map qid_plain (items v)) (Ok at)
          → fids' ≡ insert fids newfid (closed at)
          → IsStep (walk fid newfid names) (walks items) state
          (server_state t' fids' msize settings) steady f0 f1 (Ok v)
      walk_done v at w is = step_ok (walk fid newfid names) (walks items) state
          (server_state t' fids' msize settings) steady f0 f1 v
          ((λ j. pair (walks items v) (server_state (swept j) fids' msize settings))
          ∙ (λ j. pair (walks items v) (kept_state (server_state t (is j) msize settings)))
          ∙ (λ j. pair (walk_answer state newfid (w.exactly.0 j, Ok at)).0
          (kept_state (walk_answer state newfid (w.exactly.0 j, Ok at)).1))
          ∙ (λ j. pair (walk_answer state newfid
          ((walk_names settings.casefold t names start).0, sym w.exactly.1 j)).0
          (kept_state (walk_answer state newfid
          ((walk_names settings.casefold t names start).0, sym w.exactly.1 j)).1))
          ∙ sym (ap (λ (x : Reply × ServerState). pair x.0 (kept_state x.1)) core_start)) count

      pub walk_no_memory : (e : HostError) → fids' ≡ fids
          → ◌≡◌ {A = Result (Unit {0}) HostError} (Err e) (Err NoMemory)
          → IsStep (walk fid newfid names) (walks items) state
          (server_state t' fids' msize settings) steady f0 f1 (Err e)
      walk_no_memory e is none =
          let memory : e ≡ NoMemory = cc in
          let same : server_state t' fids' msize settings ≡ state =
          (λ j. server_state (swept j) fids' msize settings)
          ∙ (λ j. kept_state (server_state t (is j) msize settings))
          ∙ kept_state_kept state kept in
          subst (λ (d : HostError). IsStep (walk fid newfid names) (walks items) state
          (server_state t' fids' msize settings) steady f0 f1 (Err d)) (sym memory)
          (step_no_memory (walk fid newfid names) (walks items) state
          (server_state t' fids' msize settings) steady f0 f1 same count)
