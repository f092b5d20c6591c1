-- A server at one moment, what no call changes, and what asking one message gives.
use Rattle.std.specs.Prelude.{◌≡◌, ◌⊎◌, ℕ, ◌+◌, ◌-◌, ◌≤◌, ◌^◌, min, Bool, IsTrue, Some, Result, Err}
use Rattle.std.specs.FinMap as map
use Rattle.port_base.specs.Faults.{Rose}
use Rattle.port_base.specs.declared.errno.TheConstants.{EIO}
use Rattle.tree_model.specs.Tree.{Tree}
use Rattle.fid_model.specs.Fids.{ServerState, Fid, IsTreeAlone}

-- what a server shows: its state, its count of faults, whether it meets none, and how many
-- messages it was handed
pub record Moment : Type 0 where
  pub state : ServerState
  pub faults : ℕ
  pub steady : Bool
  pub asked : ℕ

-- a count that is steady doesn't rise
abbrev pub Steadily : Bool → ℕ → ℕ → Type 0
Steadily steady f0 f1 = IsTrue steady → f1 ≡ f0

-- what every message keeps; the greatest size of a frame never grows
pub record Stays (old new : Moment) : Type 0 where
  pub fixed : new.state.settings ≡ old.state.settings
  pub sized : new.state.msize ≤ old.state.msize
  pub rises : old.faults ≤ new.faults
  pub steady : new.steady ≡ old.steady
  pub steadily : Steadily old.steady old.faults new.faults

-- what every call keeps that sends no Tversion
pub record Keeps (old new : Moment) : Type 0 where
  pub fixed : new.state.settings ≡ old.state.settings
  pub sized : new.state.msize ≡ old.state.msize
  pub rises : old.faults ≤ new.faults
  pub steady : new.steady ≡ old.steady
  pub steadily : Steadily old.steady old.faults new.faults

-- one more message was handed over
abbrev pub AskedOne : Moment → Moment → Type 0
AskedOne old new = new.asked ≡ min (old.asked + 1) (2 ^ 64 - 1)

-- ---- what a fault leaves of the tree, as a parameter

-- nothing changed
abbrev pub Untouched : Tree → Tree → Type 0
Untouched t u = u ≡ t

-- the tree is as it was
abbrev pub SameTree : Moment → Moment → Type 0
SameTree old new = Untouched old.state.tree new.state.tree

-- ---- one message

-- the answer and state that are told; or, only where the count of faults rose, EIO, and of the
-- state no more than the tree has changed, as `part` says
abbrev pub Asks : {A : Type 0} → Result A ℕ × ServerState → (Tree → Tree → Type 0) → Result A ℕ
    → ServerState → ServerState → ℕ → ℕ → Type 0
Asks told part answer s0 s1 f0 f1 =
    ((answer, s1) ≡ told)
    ⊎ (Rose f0 f1 × (answer ≡ Err EIO) × IsTreeAlone s0 s1 × part s0.tree s1.tree)

-- one message was answered
pub record Answered {A : Type 0} (told : Result A ℕ × ServerState) (part : Tree → Tree → Type 0)
    (answer : Result A ℕ) (old new : Moment) : Type 0 where
  pub asks : Asks told part answer old.state new.state old.faults new.faults
  pub asked : AskedOne old new

-- one message about a fid was answered
pub record FidAnswered {A : Type 0} (told : ServerState → Fid → Result A ℕ × ServerState)
    (part : Tree → Tree → Type 0) (fid : ℕ) (answer : Result A ℕ) (old new : Moment) : Type 0 where
  pub asks : (f : Fid) → map.get old.state.fids fid ≡ Some f → Asks (told old.state f) part answer
      old.state new.state old.faults new.faults
  pub asked : AskedOne old new
