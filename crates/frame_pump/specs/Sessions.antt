-- Answers to frames in a session: one, and a run of them.
use Rattle.std.specs.Prelude.{◌≡◌, ◌⊎◌, ℕ, ◌+◌, ◌-◌, ◌^◌, ◌≤◌, min, Bool, IsTrue, List, ◌++◌}
use Rattle.port_base.specs.Faults.{Rose}
use Rattle.tree_model.specs.Settings.{Settings}
use Rattle.tree_machine.specs.State.{MachineState}
use Rattle.tree_machine.specs.Step.{step}
use Rattle.tree_machine.specs.Messages.{messages, messages_from}
use Rattle.tree_machine.specs.Faults.{IsPartDone, IsHurtStep, Hurt}

-- what a gate and the server below it show of a session
pub record Session : Type 0 where
  -- the state of the machine, and how the tree is shared
  pub state : MachineState
  pub settings : Settings
  -- the most bytes of a file that one message brings
  pub piece : ℕ
  -- how often what the server stands on has failed, and whether it never fails
  pub faults : ℕ
  pub steady : Bool
  -- how many messages the gate has sent, and how many the server was handed, each up to 2^64 - 1
  pub sent : ℕ
  pub asked : ℕ

-- a count that stands at 2^64 - 1 once reached went up by so many
abbrev pub Counted : ℕ → ℕ → ℕ → Type 0
Counted before more now = min now (2 ^ 64 - 1) ≡ min (before + more) (2 ^ 64 - 1)

-- so many faults were counted at least
abbrev pub Met : ℕ → ℕ → ℕ → Type 0
Met before more now = min (before + more) (2 ^ 64 - 1) ≤ now

-- what always holds of a later moment of a session
pub record Stays (old new : Session) : Type 0 where
  pub settings : new.settings ≡ old.settings
  pub piece : new.piece ≡ old.piece
  pub steady : new.steady ≡ old.steady
  pub steadily : IsTrue old.steady → new.faults ≡ old.faults
  pub rises : old.faults ≤ new.faults

-- the step of the machine, with its messages; or, only where the count of faults rose, a step that
-- met a fault
abbrev pub StepOutcome : ℕ → Settings → MachineState → MachineState → ℕ → ℕ → ℕ → List ℕ → List ℕ
    → Type 0
StepOutcome piece s m0 m1 f0 f1 sent frame bytes =
    ((bytes ≡ (step s m0 frame).0) × (m1 ≡ (step s m0 frame).1)
    × (sent ≡ messages piece s m0 frame)) ⊎ (Rose f0 f1 × IsHurtStep s m0 frame bytes m1)

-- a frame was answered by these bytes
pub record Answers (old new : Session) (frame bytes : List ℕ) : Type 0 where
  pub stays : Stays old new
  -- how many messages were sent
  pub number : ℕ
  pub sent : Counted old.sent number new.sent
  pub asked : Counted old.asked number new.asked
  pub outcome : StepOutcome old.piece old.settings old.state new.state old.faults new.faults number
      frame bytes

-- a reply grew by the bytes that answer a frame
abbrev pub AppendsAnswer : Session → Session → List ℕ → List ℕ → List ℕ → Type 0
AppendsAnswer old new frame reply0 reply1 = (bytes : List ℕ) × (reply1 ≡ reply0 ++ bytes)
    × Answers old new frame bytes

-- a frame was answered in part: out of memory
pub record LeavesPart (old new : Session) (frame : List ℕ) : Type 0 where
  pub stays : Stays old new
  pub tree : IsPartDone old.settings old.state frame new.state.tree

-- frames were answered one after another, by these replies
pub record Answered (old new : Session) (frames : List (List ℕ)) (replies : List ℕ) : Type 0 where
  pub stays : Stays old new
  -- how many messages were sent
  pub number : ℕ
  pub sent : Counted old.sent number new.sent
  pub asked : Counted old.asked number new.asked
  -- how many of the frames met a fault
  pub hurt : ℕ
  pub run : Hurt old.settings old.state frames hurt replies new.state
  pub met : Met old.faults hurt new.faults
  pub exact : hurt ≡ 0 → number ≡ messages_from old.piece old.settings old.state frames
