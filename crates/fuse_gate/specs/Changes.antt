-- Changes of a gate, and the moment between two messages.
use Rattle.std.specs.Prelude.{◌≡◌, ℕ, ◌+◌, ◌-◌, ◌^◌, ◌<◌, true, false, min, length, Option, Some}
use Rattle.std.specs.Prelude.{None, IsSome, Result, Ok, Err}
use Rattle.std.specs.FinMap as map
use Rattle.port_base.specs.OpenFlags.{access, has_flag}
use Rattle.port_base.specs.declared.oflag.TheConstants.{O_APPEND, O_RDONLY}
use Rattle.tree_model.specs.Tree.{Tree, body_at, is_directory_at}
use Rattle.tree_model.specs.Attributes.{Qid}
use Rattle.tree_model.specs.OpenedFiles.{open_of}
use Rattle.tree_model.specs.Reading.{part}
use Rattle.tree_machine.specs.State.{MachineState, is_at_limit, COUNT_LIMIT, Node as MachineNode}
use Rattle.tree_machine.specs.State.{kept_state}
use Rattle.tree_machine.specs.Replies.{Reply}
use Rattle.tree_machine.specs.Replies.Reply.{Bytes}
use Rattle.tree_machine.specs.Core.{looked_up, node_of, getattr_refusal, getattr_ino}
use Rattle.tree_machine.specs.Faults.{IsEither}
use Rattle.tree_machine.specs.Messages.{opened_messages, pieces}
use Rattle.tree_machine.specs.Requests.{opened_to}
use Rattle.tree_machine.specs.Setting.{is_read_alone, set_through}
use Rattle.fid_model.specs.Fids.{ServerState, Fid, closed, IsGoodServer}
use Rattle.fid_model.specs.Answers.{qid_at}
use Rattle.fid_model.specs.Setattr.{is_open_to_read_alone}
use Rattle.fid_model.specs.Moments.{Moment, Untouched}
use Rattle.fuse_gate.specs.Files.{file_at}
use Rattle.fuse_gate.specs.Standing.{IsInStep, machine_of, piece_of}
use Rattle.fuse_gate.specs.Steps.{Serves, machine_at}
use Rattle.fuse_gate.specs.declared.gate.Node.{Node}
use Rattle.fuse_gate.specs.declared.gate.Handle.{Handle}
use Rattle.fuse_gate.specs.declared.gate.Gate.{Gate}

-- one more message was sent
abbrev pub one_sent : Gate → Gate
one_sent g = record g { nine_frames = min (g.nine_frames + 1) (2 ^ 64 - 1) }

-- a node counts one more
abbrev pub counted_node : Node → Node
counted_node n = record n { count = min (n.count + 1) COUNT_LIMIT }

abbrev pub counted_by : Gate → ℕ → Option Node → Gate
counted_by g id None = g
counted_by g id (Some n) = record g { nodes = map.insert g.nodes id (counted_node n) }

abbrev pub counted_up : Gate → ℕ → Gate
counted_up g id = counted_by g id (map.get g.nodes id)

-- the next number becomes a node
abbrev pub with_node : Gate → ℕ → ℕ → Gate
with_node g ino kind = record g {
  nodes = map.insert g.nodes g.next (record { ino = ino; count = 1; kind = kind });
  ids = map.insert g.ids ino g.next;
  next = g.next + 1;
  used = g.used + 1;
}

-- a node counts less
abbrev pub counted_down : Gate → ℕ → Node → ℕ → Gate
counted_down g id n number =
    record g { nodes = map.insert g.nodes id (record n { count = n.count - number }) }

-- a node of an inode goes
abbrev pub without_node : Gate → ℕ → ℕ → Gate
without_node g id ino =
    record g { nodes = map.remove g.nodes id; ids = map.remove g.ids ino; used = g.used - 1 }

-- the next number becomes a handle
abbrev pub with_handle : Gate → Handle → Gate
with_handle g h = record g {
  handles = map.insert g.handles g.next h;
  next = g.next + 1;
  used = g.used + 1;
}

-- the handle of a node that is opened by these flags
abbrev pub handle_by : Node → ℕ → Handle
handle_by n flags =
    record { ino = n.ino; access = access flags; append = has_flag O_APPEND flags; kind = n.kind }

-- a handle goes
abbrev pub without_handle : Gate → ℕ → Gate
without_handle g id = record g { handles = map.remove g.handles id; used = g.used - 1 }

-- the server without a fid
abbrev pub without : ServerState → ℕ → ServerState
without s fid = record s { fids = map.remove s.fids fid }

-- a node may be opened by these flags, a directory to be read alone, and a number is left for the
-- handle
pub record MayOpen (g : Gate) (s : ServerState) (id : ℕ) (n : Node) (flags : ℕ) : Type 0 where
  pub stands : IsInStep g s
  pub known : map.get g.nodes id ≡ Some n
  pub plain : is_directory_at (body_at s.tree.records n.ino) ≡ true
      → (access flags ≡ O_RDONLY) × (has_flag O_APPEND flags ≡ false)
  pub room : is_at_limit s.settings (machine_of g s) ≡ false
  pub few : g.used < 2 ^ 32

-- in step, but for a new fid that names an inode
pub record HasFresh (g : Gate) (s : ServerState) (ino : ℕ) (qid : Qid) : Type 0 where
  pub stands : IsInStep g (without s g.next)
  pub good : IsGoodServer (without s g.next)
  pub fresh : map.get s.fids g.next ≡ Some (closed ino)
  pub stored : IsSome (map.get s.tree.records ino)
  pub named : qid ≡ qid_at s.tree ino
  pub room : is_at_limit s.settings (machine_of g s) ≡ false
  pub few : g.used < 2 ^ 32

-- the messages after the walk to an inode: its attributes, and where it has a node the second
-- fid's going
abbrev pub entering_rest : Option (ℕ × MachineNode) → ℕ
entering_rest None = 1
entering_rest (Some known) = 2

-- ---- parts of requests that change no tree

-- the entry of an inode that the next number names as a fid
abbrev pub ServesEntry : ℕ → Gate × Moment → Gate × Moment → Reply → Type 0
ServesEntry ino old new reply =
    Serves (looked_up old.1.state.settings (machine_at old) (Ok ino))
    (entering_rest (node_of (machine_at old) ino)) (Untouched old.1.state.tree) old new reply

-- the fid of what GETATTR or SETATTR asks about, and how it is open; or the refusal
abbrev pub IsSubject : Gate → ServerState → ℕ → Option ℕ → Result ℕ ℕ → Type 0
IsSubject g s node handle (Ok fid) =
    (getattr_refusal (machine_of g s) node handle ≡ None)
    × ((f : Fid) × (map.get s.fids fid ≡ Some f)
    × (f.ino ≡ getattr_ino (machine_of g s) node handle)
    × (is_open_to_read_alone f.open_state ≡ is_read_alone (set_through (machine_of g s) handle)))
IsSubject g s node handle (Err e) = getattr_refusal (machine_of g s) node handle ≡ Some e

-- the reading of a fid's file, piece by piece
abbrev pub ServesReading : ℕ → ℕ → ℕ → Gate × Moment → Gate × Moment → Reply → Type 0
ServesReading fid offset size old new reply =
    let bytes = part (file_at old.1.state fid) offset size in
    Serves (Bytes bytes, machine_at old) (pieces (piece_of old.1.state) size (length bytes))
    (Untouched old.1.state.tree) old new reply

-- ---- opening, which may empty a file

-- what the machine answers where a node is opened by these flags
abbrev pub opening : Node → ℕ → Gate × Moment → Reply × MachineState
opening n flags old = opened_to (machine_at old) n.ino flags (open_of old.1.state.tree n.ino flags)

-- the tree before, or the one after it
abbrev pub LeavesOpening : Node → ℕ → Gate × Moment → Tree → Type 0
LeavesOpening n flags old t =
    IsEither old.1.state.tree (kept_state (opening n flags old).1).tree t

-- the opening of a node that may be opened
abbrev pub ServesOpening : Node → ℕ → Gate × Moment → Gate × Moment → Reply → Type 0
ServesOpening n flags old new reply =
    Serves (opening n flags old) (opened_messages (open_of old.1.state.tree n.ino flags))
    (LeavesOpening n flags old) old new reply
