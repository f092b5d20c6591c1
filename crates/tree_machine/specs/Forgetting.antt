-- How often a node was given, counted down.
use Rattle.std.specs.Prelude.{ℕ, ◌-◌, ◌/◌, List, [], ◌∷◌, map as each, length, Option, Some, None}
use Rattle.std.specs.Prelude.{if◌then◌else◌, ◌==◌, nat_le}
use Rattle.std.specs.FinMap as map
use Rattle.std.specs.Simd.{first_chunks}
use Rattle.fuse_wire.specs.Fields.{u64_at}
use Rattle.fuse_wire.specs.declared.request.TheConstants.{FORGET_ONE_SIZE}
use Rattle.fuse_wire.specs.declared.protocol.TheConstants.{FUSE_ROOT_ID}
use Rattle.tree_machine.specs.State.{MachineState, Node}

-- a node goes whose count is at or below the number; else the count is less by it
abbrev pub less_by : MachineState → ℕ → ℕ → Node → MachineState
less_by m node number n =
    if nat_le n.count number then record m { nodes = map.remove m.nodes node } else
    record m { nodes = map.insert m.nodes node (record { ino = n.ino; count = n.count - number }) }

abbrev pub less_where : MachineState → ℕ → ℕ → Option Node → MachineState
less_where m node number None = m
less_where m node number (Some n) = less_by m node number n

-- the root and an unknown node are passed over
abbrev pub forgotten : MachineState → ℕ → ℕ → MachineState
forgotten m node number = if node == FUSE_ROOT_ID then m else less_where m node number
    (map.get m.nodes node)

-- pair by pair: a node, and its number
abbrev pub all_forgotten : MachineState → List (ℕ × ℕ) → MachineState
all_forgotten m [] = m
all_forgotten m (p ∷ ps) = all_forgotten (forgotten m p.0 p.1) ps

-- a node and a number of 8 bytes each
abbrev pub pair_of : List ℕ → ℕ × ℕ
pair_of bytes = (u64_at bytes 0, u64_at bytes 8)

-- the pairs of a batch, of 16 bytes each
abbrev pub pairs_of : List ℕ → List (ℕ × ℕ)
pairs_of bytes = each pair_of (first_chunks FORGET_ONE_SIZE (length bytes / FORGET_ONE_SIZE) bytes)
