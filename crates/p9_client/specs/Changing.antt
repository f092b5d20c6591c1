-- What a call gives that may change the tree, or that asks something of it.
use Rattle.std.specs.Prelude.{◌≡◌, ◌⊎◌, ℕ, Option, Some, None, Result, Ok, Err, IfOk, OnErr}
use Rattle.std.specs.FinMap as map
use Rattle.port_base.specs.declared.errno.TheConstants.{EBADF}
use Rattle.tree_model.specs.Tree.{Tree}
use Rattle.p9_rmsg.specs.Replies.{Reply}
use Rattle.p9_rmsg.specs.Replies.Reply.{lerror as r_lerror}
use Rattle.p9_tmsg.specs.declared.message.Tsetattr.{Tsetattr}
use Rattle.fid_model.specs.Fids.{ServerState, Fid, kept_state}
use Rattle.tree_model.specs.AttributeSteps.{run, IsAfterFront}
use Rattle.fid_model.specs.Setattr.{Changes as Changed, changes, steps, steps_at}
use Rattle.fid_model.specs.Moments.{Moment, Answered, Keeps, Untouched}

-- ---- what is told

-- an answer as the client reads it, and the state with the new tree; a refusal leaves the state
abbrev pub changed : {A B : Type 0} → ServerState → (A → B) → Result (A × Tree) ℕ
    → Result B ℕ × ServerState
changed s view (Ok (a, t)) = (Ok (view a), kept_state (record s { tree = t }))
changed s view (Err e) = (Err e, s)

-- what a Tsetattr's fields give
abbrev pub changes_of : Tsetattr → Changed
changes_of m = changes m.valid m.mode m.uid m.gid m.size m.atime_sec m.atime_nsec m.mtime_sec
    m.mtime_nsec

-- attributes that are set step by step, up to the first step that is refused
abbrev pub set_by : ServerState → Changed → Option Fid → Result (Unit {0}) ℕ × ServerState
set_by s c None = (Err EBADF, s)
set_by s c (Some f) =
    ((run (steps c f) s.tree).0, kept_state (record s { tree = (run (steps c f) s.tree).1 }))

abbrev pub set_told : ServerState → Changed → ℕ → Result (Unit {0}) ℕ × ServerState
set_told s c fid = set_by s c (map.get s.fids fid)

-- ---- what is left

-- the tree as it was, or as what is told leaves it
abbrev pub OldOrTold : {A : Type 0} → Result A ℕ × ServerState → Tree → Tree → Type 0
OldOrTold told t u = (u ≡ t) ⊎ (u ≡ told.1.tree)

-- the tree as what is told leaves it, or as a front part of its steps did
abbrev pub FrontOrTold : ServerState → Changed → ℕ → Tree → Tree → Type 0
FrontOrTold s c fid t u =
    (u ≡ (set_told s c fid).1.tree) ⊎ IsAfterFront (steps_at c (map.get s.fids fid)) t u

-- one message: its answer as it is told, or, only where the count of faults rose, EIO and what
-- `part` says of the tree; out of memory, what `part` says alone
pub record Gives {R A E : Type 0} (view : R → Result A ℕ) (told : Result A ℕ × ServerState)
    (part : Tree → Tree → Type 0) (result : Result R E) (old new : Moment) : Type 0 where
  pub answer : IfOk result (λ r. Answered told part (view r) old new)
  pub unfinished : OnErr result (part old.state.tree new.state.tree)
  pub kept : Keeps old new

-- a message that may change the tree
abbrev pub Changes : {R A E : Type 0} → (R → Result A ℕ) → (ServerState → Result A ℕ × ServerState)
    → Result R E → Moment → Moment → Type 0
Changes view told result old new =
    Gives view (told old.state) (OldOrTold (told old.state)) result old new

-- a message that leaves the tree as it is
abbrev pub Shows : {R A E : Type 0} → (R → Result A ℕ) → (ServerState → Result A ℕ) → Result R E
    → Moment → Moment → Type 0
Shows view told result old new =
    Gives view (told old.state, old.state) Untouched result old new

-- ---- replies

-- a reply that is no refusal says that all was done
abbrev pub done : Reply → Result (Unit {0}) ℕ
done (r_lerror e) = Err e
done _ = Ok tt
