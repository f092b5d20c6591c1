-- One step of a gate over a server.
use Rattle.std.specs.Prelude.{◌≡◌, ◌⊎◌, ℕ, List, Ok}
use Rattle.port_base.specs.Faults.{Rose}
use Rattle.port_base.specs.declared.errno.TheConstants.{EIO}
use Rattle.tree_model.specs.Tree.{Tree}
use Rattle.fuse_wire.specs.Request.{Request}
use Rattle.tree_machine.specs.State.{MachineState, kept_state}
use Rattle.tree_machine.specs.Replies.{Reply}
use Rattle.tree_machine.specs.Replies.Reply.{Refused}
use Rattle.tree_machine.specs.Requests.{answer_of}
use Rattle.tree_machine.specs.Step.{frame_answer}
use Rattle.tree_machine.specs.Messages.{request_messages, messages}
use Rattle.tree_machine.specs.Faults.{PartOf, IsPartDone}
use Rattle.fid_model.specs.Moments.{Moment}
use Rattle.frame_pump.specs.Sessions.{Counted}
use Rattle.fuse_gate.specs.Standing.{IsInStep, machine_of, piece_of}
use Rattle.fuse_gate.specs.declared.gate.Gate.{Gate}

-- the machine's state of a gate at a server's moment
abbrev pub machine_at : Gate × Moment → MachineState
machine_at x = machine_of x.0 x.1.state

-- so many messages were sent, and handed to the server
pub record Sent (number : ℕ) (old new : Gate × Moment) : Type 0 where
  pub frames : Counted old.0.nine_frames number new.0.nine_frames
  pub asked : Counted old.1.asked number new.1.asked

-- the reply and the state that are told, by so many messages; or, only where the count of faults
-- rose, the error EIO, and of the state no more than the tree has changed, as `part` says
abbrev pub ServedBy : Reply × MachineState → ℕ → (Tree → Type 0) → Gate × Moment → Gate × Moment
    → ℕ → Reply → Type 0
ServedBy told count part old new sent reply =
    ((reply ≡ told.0) × (machine_at new ≡ kept_state told.1) × (sent ≡ count))
    ⊎ (Rose old.1.faults new.1.faults × (reply ≡ Refused EIO)
    × (machine_at new ≡ record (machine_at old) { tree = new.1.state.tree })
    × part new.1.state.tree)

-- what serving a request leaves whose reply and next state are told
pub record Serves (told : Reply × MachineState) (count : ℕ) (part : Tree → Type 0)
    (old new : Gate × Moment) (reply : Reply) : Type 0 where
  pub stands : IsInStep new.0 new.1.state
  -- how many messages were sent
  pub sent : ℕ
  pub messages : Sent sent old new
  pub outcome : ServedBy told count part old new sent reply

-- what letting fids go leaves: a state after records went, and so many messages were sent
pub record LetsGo (told : MachineState) (count : ℕ) (old new : Gate × Moment) : Type 0 where
  pub stands : IsInStep new.0 new.1.state
  pub state : machine_at new ≡ kept_state told
  pub messages : Sent count old new

-- ---- requests and frames

-- a request asked of a node is served as the machine answers it
abbrev pub ServesRequest : ℕ → Request → Gate × Moment → Gate × Moment → Reply → Type 0
ServesRequest node request old new reply =
    let s = old.1.state.settings in
    let m = machine_at old in
    Serves (answer_of s m node (Ok request))
    (request_messages (piece_of old.1.state) s m node (Ok request))
    (PartOf s m node (Ok request)) old new reply

-- what a request leaves of the tree that isn't carried out whole
abbrev pub LeavesPartOf : ℕ → Request → Gate × Moment → Moment → Type 0
LeavesPartOf node request old new =
    PartOf old.1.state.settings (machine_at old) node (Ok request) new.state.tree

-- a frame is served
abbrev pub ServesFrame : List ℕ → Gate × Moment → Gate × Moment → Reply → Type 0
ServesFrame frame old new reply =
    let s = old.1.state.settings in
    let m = machine_at old in
    Serves (frame_answer s m frame) (messages (piece_of old.1.state) s m frame)
    (IsPartDone s m frame) old new reply

abbrev pub LeavesPartOfFrame : List ℕ → Gate × Moment → Moment → Type 0
LeavesPartOfFrame frame old new =
    IsPartDone old.1.state.settings (machine_at old) frame new.state.tree
