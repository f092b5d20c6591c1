-- What a gate and a server stand for: a good state of the machine.
use Rattle.std.specs.Prelude.{◌≡◌, ℕ, ◌+◌, ◌-◌, ◌≤◌, min, Option, Some, None}
use Rattle.std.specs.FinMap as map
use Rattle.tree_model.specs.Tree.{Record}
use Rattle.tree_model.specs.Attributes.{kind_of, qid_type}
use Rattle.tree_machine.specs.State.{MachineState, Node as MachineNode, Handle as MachineHandle}
use Rattle.tree_machine.specs.State.{Phase as MachinePhase}
use Rattle.tree_machine.specs.State.Phase.{New, Started, Over}
use Rattle.tree_machine.specs.Good.{IsGoodMachine}
use Rattle.fid_model.specs.Fids.{ServerState, Fid, closed}
use Rattle.fid_model.specs.Fids.OpenState.{Opened}
use Rattle.p9_wire.specs.declared.protocol.TheConstants.{RREAD_HEADER_SIZE}
use Rattle.fuse_gate.specs.Mapped.{mapped}
use Rattle.fuse_gate.specs.declared.gate.TheConstants.{LEAST_MSIZE, GREATEST_MSIZE}
use Rattle.fuse_gate.specs.declared.gate.Node.{Node}
use Rattle.fuse_gate.specs.declared.gate.Handle.{Handle}
use Rattle.fuse_gate.specs.declared.gate.Gate.{Gate}
use Rattle.fuse_gate.specs.declared.gate.Phase.{Phase}
use Rattle.fuse_gate.specs.declared.gate.Phase.TheVariants as phase

abbrev pub phase_of : Phase → MachinePhase
phase_of phase.New = New
phase_of phase.Started = Started
phase_of phase.Over = Over

abbrev pub node_of : Node → MachineNode
node_of n = record { ino = n.ino; count = n.count }

abbrev pub handle_of : Handle → MachineHandle
handle_of h = record { ino = h.ino; access = h.access; append = h.append }

-- the state of the machine that a gate and a server are
abbrev pub machine_of : Gate → ServerState → MachineState
machine_of g s =
    record {
      phase = phase_of g.phase;
      tree = s.tree;
      nodes = mapped node_of g.nodes;
      handles = mapped handle_of g.handles;
      next = g.next;
    }

-- the most bytes of a file that the gate asks a server for at once
abbrev pub piece_of : ServerState → ℕ
piece_of s = min s.msize GREATEST_MSIZE - RREAD_HEADER_SIZE

abbrev pub opened : Handle → Fid
opened h = record { ino = h.ino; open_state = Opened h.access h.append }

-- the fid of a node or a handle
abbrev pub fid_at : Option Node → Option Handle → Option Fid
fid_at (Some n) h = Some (closed n.ino)
fid_at None (Some h) = Some (opened h)
fid_at None None = None

-- the gate's tables say what the server has
pub record ArePaired (g : Gate) (s : ServerState) : Type 0 where
  -- the fids are exactly the node ids and the handles, each under its own number
  pub fids : (q : ℕ) → map.get s.fids q ≡ fid_at (map.get g.nodes q) (map.get g.handles q)
  pub used : g.used ≡ map.len s.fids
  pub counted : map.len g.nodes + map.len g.handles ≡ g.used
  -- the index has the node of each inode that one names
  pub ids : (ino id : ℕ) → map.get g.ids ino ≡ Some id → (n : Node) × (map.get g.nodes id ≡ Some n)
      × (n.ino ≡ ino)
  pub known : (id : ℕ) (n : Node) → map.get g.nodes id ≡ Some n → map.get g.ids n.ino ≡ Some id
  -- each kind is that of the inode's record
  pub node_kinds : (id : ℕ) (n : Node) (r : Record) → map.get g.nodes id ≡ Some n
      → map.get s.tree.records n.ino ≡ Some r → n.kind ≡ qid_type (kind_of r.body)
  pub handle_kinds : (id : ℕ) (h : Handle) (r : Record) → map.get g.handles id ≡ Some h
      → map.get s.tree.records h.ino ≡ Some r → h.kind ≡ qid_type (kind_of r.body)

-- a gate and a server stand for a good state, and the server takes every frame that the gate sends
pub record IsInStep (g : Gate) (s : ServerState) : Type 0 where
  pub good : IsGoodMachine s.settings (machine_of g s)
  pub paired : ArePaired g s
  pub roomy : LEAST_MSIZE ≤ s.msize
