-- A run in which no fault was counted.
use Rattle.std.specs.Prelude.{◌≡◌, ℕ, ◌-◌, ◌^◌, ◌<◌, List, length, Option, Some, None, IfSome, Ok}
use Rattle.std.specs.Io.KnownBytes.{Appends}
use Rattle.tree_model.specs.Tree.{linked}
use Rattle.tree_model.specs.Finding.{root_of}
use Rattle.fuse_wire.specs.Cuts.{cut, End}
use Rattle.fuse_wire.specs.Cuts.End.{turns_spent, torn, bad_length}
use Rattle.tree_machine.specs.Play.{play}
use Rattle.tree_machine.specs.Messages.{total}
use Rattle.fid_model.specs.Moments.{Moment}
use Rattle.frame_pump.specs.Sessions.{Counted}
use Rattle.frame_pump.specs.Turns.{Streams}
use Rattle.frame_pump.specs.declared.outcome.BridgeError.{BridgeError}
use Rattle.frame_pump.specs.declared.outcome.BridgeError.TheVariants as cause
use Rattle.fuse_gate.specs.Standing.{piece_of}

-- no fault of the server was counted
pub record Unfailing (n0 n1 : Moment) : Type 0 where
  pub same : n1.faults ≡ n0.faults
  pub below : n0.faults < 2 ^ 64 - 1

-- what was written, the tree that is left and the number of messages are those of the machine for
-- the frames of the cut, which has this end
pub record Plays (n0 n1 : Moment) (p0 p1 : Streams) (bytes : List ℕ) (turns : ℕ) (last : End)
    (handled nine_frames : ℕ) : Type 0 where
  pub root : ℕ
  pub found : root_of (linked n0.state.tree) n0.state.settings.root ≡ Ok root
  pub end : (cut turns bytes).end ≡ last
  pub number : length (cut turns bytes).frames ≡ handled
  pub replies : Appends p0.sent p1.sent
      (play n0.state.settings (linked n0.state.tree) root (cut turns bytes).frames).0
  pub tree : n1.state.tree
      ≡ (play n0.state.settings (linked n0.state.tree) root (cut turns bytes).frames).1
  pub messages : Counted 0
      (total (piece_of n0.state) n0.state.settings (linked n0.state.tree) root
      (cut turns bytes).frames)
      nine_frames

-- the same where no fault was counted and the input tells its bytes
abbrev pub PlaysTo : End → ℕ → ℕ → Moment → Moment → Streams → Streams → ℕ → Type 0
PlaysTo end handled nine_frames n0 n1 p0 p1 turns =
    Unfailing n0 n1
    → IfSome p0.left (λ bytes. Plays n0 n1 p0 p1 bytes turns end handled nine_frames)

-- the end of the cut at which a run stops by this cause
abbrev pub end_of : BridgeError → Option End
end_of cause.Torn = Some torn
end_of cause.BadLength = Some bad_length
end_of cause.TurnsSpent = Some turns_spent
end_of _ = None
