-- The state of the machine: a tree, and the node ids and handles that a client was given.
use Rattle.std.specs.Prelude.{ℕ, ◌+◌, Bool, cond, ◌||◌, ◌==◌, nat_lt, nat_le}
use Rattle.std.specs.Ordering.{nat_cmp}
use Rattle.std.specs.FinMap as map
use Rattle.std.specs.FinMap.{FinMap}
use Rattle.tree_model.specs.Tree.{Tree, weigh, keep}
use Rattle.tree_model.specs.Settings.{Settings}
use Rattle.fuse_wire.specs.declared.protocol.TheConstants.{FUSE_ROOT_ID}
use Rattle.tree_machine.specs.declared.limits.TheConstants.{NUMBER_LIMIT}

-- before the session's INIT, in the session, and after its DESTROY
pub data Phase : Type 0 where
  New : Phase
  Started : Phase
  Over : Phase

-- a node id names an inode, and counts how often a look-up gave it
pub record Node : Type 0 where
  pub ino : ℕ
  pub count : ℕ

-- a handle names an inode, opened with an access and to append or not
pub record Handle : Type 0 where
  pub ino : ℕ
  pub access : ℕ
  pub append : Bool

-- node ids and handles are drawn from one counter, which only rises
pub record MachineState : Type 0 where
  pub phase : Phase
  pub tree : Tree
  pub nodes : FinMap nat_cmp Node
  pub handles : FinMap nat_cmp Handle
  pub next : ℕ

-- the greatest count of a node
abbrev pub COUNT_LIMIT : ℕ
COUNT_LIMIT = 18446744073709551615

abbrev pub node_weight : ℕ → Node → ℕ
node_weight i n = cond (n.ino == i) 1 0

abbrev pub handle_weight : ℕ → Handle → ℕ
handle_weight i h = cond (h.ino == i) 1 0

-- whether a node or a handle names an inode
abbrev pub is_named : FinMap nat_cmp Node → FinMap nat_cmp Handle → ℕ → Bool
is_named nodes handles i =
    nat_lt 0 (weigh (node_weight i) (map.entries nodes)
    + weigh (handle_weight i) (map.entries handles))

-- what is kept of a state: the records go that are neither linked nor named by a node or a handle
abbrev pub kept_state : MachineState → MachineState
kept_state m = record m { tree = keep (is_named m.nodes m.handles) m.tree }

-- no further number can be drawn: node ids and handles are as many as the limit, or the counter is
-- at its end
abbrev pub is_at_limit : Settings → MachineState → Bool
is_at_limit s m =
    nat_le s.limit (map.len m.nodes + map.len m.handles) || nat_le NUMBER_LIMIT m.next

-- the state in which a session begins, with the root of the share as node 1
abbrev pub begun : Tree → ℕ → MachineState
begun t root = record {
  phase = New;
  tree = t;
  nodes = map.insert map.empty FUSE_ROOT_ID (record { ino = root; count = 1 });
  handles = map.empty;
  next = 2;
}
