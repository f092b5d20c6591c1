-- A node that is entered once more, for one more name of its file.
use Rattle.std.specs.Prelude.{◌≡◌, ℕ, false, Ok, IsSome}
use Rattle.std.specs.FinMap as map
use Rattle.tree_machine.specs.State.{is_at_limit}
use Rattle.tree_machine.specs.Replies.{Reply}
use Rattle.tree_machine.specs.Core.{looked_up, node_ino}
use Rattle.fid_model.specs.Fids.{ServerState}
use Rattle.fid_model.specs.Moments.{Moment, Untouched}
use Rattle.fuse_gate.specs.Standing.{IsInStep, machine_of}
use Rattle.fuse_gate.specs.Steps.{Serves, machine_at}
use Rattle.fuse_gate.specs.declared.gate.Gate.{Gate}

-- in step, a node that is there, and a number is left
pub record MayEnterAgain (g : Gate) (s : ServerState) (id : ℕ) : Type 0 where
  pub stands : IsInStep g s
  pub known : IsSome (map.get g.nodes id)
  pub room : is_at_limit s.settings (machine_of g s) ≡ false

-- the node's inode is looked up, by one message
abbrev pub ServesAgain : ℕ → Gate × Moment → Gate × Moment → Reply → Type 0
ServesAgain id old new reply =
    Serves (looked_up old.1.state.settings (machine_at old)
    (Ok (node_ino (map.get (machine_at old).nodes id)))) 1 (Untouched old.1.state.tree) old new reply
