-- CREATE: the file that is made, and the moment between two messages.
use Rattle.std.specs.Prelude.{◌≡◌, ℕ, ◌+◌, ◌<◌, ◌^◌, false, List, Some, None, IsSome}
use Rattle.std.specs.FinMap as map
use Rattle.port_base.specs.Names.{name_fault}
use Rattle.port_base.specs.OpenFlags.{access, has_flag}
use Rattle.port_base.specs.declared.oflag.TheConstants.{O_APPEND}
use Rattle.tree_model.specs.Tree.{Tree, body_at}
use Rattle.tree_model.specs.Attributes.{Qid}
use Rattle.tree_machine.specs.State.{MachineState, Handle as MachineHandle, kept_state}
use Rattle.tree_machine.specs.Replies.{Reply}
use Rattle.tree_model.specs.OpenedFiles.{new_file_of}
use Rattle.tree_machine.specs.Creating.{lacks_two, created, entered_open}
use Rattle.tree_machine.specs.Messages.{created_messages}
use Rattle.tree_machine.specs.Faults.{IsEither}
use Rattle.tree_machine.specs.Good.{IsOpenable}
use Rattle.fid_model.specs.Fids.{ServerState, closed, IsGoodServer}
use Rattle.fid_model.specs.Answers.{qid_at, opened}
use Rattle.fid_model.specs.Moments.{Moment, Untouched}
use Rattle.fuse_gate.specs.Standing.{IsInStep, machine_of}
use Rattle.fuse_gate.specs.Steps.{Serves, machine_at}
use Rattle.fuse_gate.specs.Changes.{without}
use Rattle.fuse_gate.specs.declared.gate.Node.{Node}
use Rattle.fuse_gate.specs.declared.gate.Handle.{Handle}
use Rattle.fuse_gate.specs.declared.gate.Gate.{Gate}

-- the handle of a file that is open by these flags
abbrev pub open_by : ℕ → ℕ → ℕ → Handle
open_by ino kind flags =
    record { ino = ino; access = access flags; append = has_flag O_APPEND flags; kind = kind }

-- in step, but for an open fid of a new file, and numbers are left for a node and a handle
pub record HasOpen (g : Gate) (s : ServerState) (ino : ℕ) (qid : Qid) (flags : ℕ) : Type 0 where
  pub stands : IsInStep g (without s (g.next + 1))
  pub good : IsGoodServer (without s (g.next + 1))
  pub is_open : map.get s.fids (g.next + 1) ≡ Some (opened (closed ino) flags)
  pub stored : IsSome (map.get s.tree.records ino)
  pub named : qid ≡ qid_at s.tree ino
  pub unnamed : map.get g.ids ino ≡ None
  pub room : lacks_two s.settings (machine_of g s) ≡ false
  pub few : g.used + 2 < 2 ^ 32
  pub allowed : access flags < 3
  pub openable : (h : MachineHandle) → IsOpenable (body_at s.tree.records ino) h

-- the file becomes a node, and its fid a handle, by two messages
abbrev pub ServesOpenEntry : ℕ → ℕ → Gate × Moment → Gate × Moment → Reply → Type 0
ServesOpenEntry ino flags old new reply =
    Serves (entered_open old.1.state.settings (machine_at old) ino flags) 2
    (Untouched old.1.state.tree) old new reply

-- in step, in a node that is there, by a name without fault, and numbers are left
pub record MayCreate (g : Gate) (s : ServerState) (id : ℕ) (n : Node) (name : List ℕ) : Type 0 where
  pub stands : IsInStep g s
  pub known : map.get g.nodes id ≡ Some n
  pub fine : name_fault name ≡ None
  pub room : lacks_two s.settings (machine_of g s) ≡ false
  pub small : s.settings.limit < 2 ^ 32

-- what the machine answers where a file is made in a node
abbrev pub creation : Node → List ℕ → ℕ → ℕ → Gate × Moment → Reply × MachineState
creation n name flags mode old = created old.1.state.settings (machine_at old) flags
    (new_file_of old.1.state.tree n.ino name flags mode)

-- the tree before, or the one after it
abbrev pub LeavesCreation : Node → List ℕ → ℕ → ℕ → Gate × Moment → Tree → Type 0
LeavesCreation n name flags mode old t =
    IsEither old.1.state.tree (kept_state (creation n name flags mode old).1).tree t

abbrev pub ServesCreation : Node → List ℕ → ℕ → ℕ → Gate × Moment → Gate × Moment → Reply → Type 0
ServesCreation n name flags mode old new reply =
    Serves (creation n name flags mode old)
    (created_messages (new_file_of old.1.state.tree n.ino name flags mode))
    (LeavesCreation n name flags mode old) old new reply
