-- Good states of the machine.
use Rattle.std.specs.Prelude.{◌≡◌, ℕ, ◌+◌, ◌<◌, ◌≤◌, false, Option, Some, None, IsSome}
use Rattle.std.specs.FinMap as map
use Rattle.tree_model.specs.Tree.{Body, body_at}
use Rattle.tree_model.specs.Tree.Body.{File, Directory, Link}
use Rattle.tree_model.specs.Good.{IsGoodTree}
use Rattle.tree_model.specs.Settings.{Settings}
use Rattle.fuse_wire.specs.declared.protocol.TheConstants.{FUSE_ROOT_ID}
use Rattle.tree_machine.specs.declared.limits.TheConstants.{NUMBER_LIMIT}
use Rattle.tree_machine.specs.State.{MachineState, Node, Handle}

-- a node's number was drawn, it counts at least one look-up, and its inode is stored
pub record IsGoodNode (m : MachineState) (id : ℕ) (n : Node) : Type 0 where
  pub positive : 1 ≤ id
  pub drawn : id < m.next
  pub counted : 1 ≤ n.count
  pub stored : IsSome (map.get m.tree.records n.ino)

-- a file is open with any access; a directory for reading alone; nothing else is open
abbrev pub IsOpenable : Option Body → Handle → Type 0
IsOpenable None h = ⊥
IsOpenable (Some (File bytes)) h = Unit {0}
IsOpenable (Some (Directory es next above)) h = (h.access ≡ 0) × (h.append ≡ false)
IsOpenable (Some (Link target)) h = ⊥

pub record IsGoodHandle (m : MachineState) (id : ℕ) (h : Handle) : Type 0 where
  pub positive : 1 ≤ id
  pub drawn : id < m.next
  pub access : h.access < 3
  pub openable : IsOpenable (body_at m.tree.records h.ino) h

pub record IsGoodMachine (s : Settings) (m : MachineState) : Type 0 where
  pub tree : IsGoodTree m.tree
  pub root : IsSome (map.get m.nodes FUSE_ROOT_ID)
  pub nodes : (id : ℕ) (n : Node) → map.get m.nodes id ≡ Some n → IsGoodNode m id n
  pub handles : (id : ℕ) (h : Handle) → map.get m.handles id ≡ Some h → IsGoodHandle m id h
  -- no number is a node and a handle, and no two nodes name one inode
  pub apart : (id : ℕ) (n : Node) → map.get m.nodes id ≡ Some n → map.get m.handles id ≡ None
  pub once : (a b : ℕ) (p q : Node) → map.get m.nodes a ≡ Some p → map.get m.nodes b ≡ Some q
      → p.ino ≡ q.ino → a ≡ b
  pub next : m.next ≤ NUMBER_LIMIT
  pub within : map.len m.nodes + map.len m.handles ≤ s.limit
