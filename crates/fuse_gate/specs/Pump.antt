-- A whole run over a server: the attach, the frames, and the fids taken away.
use Rattle.std.specs.Prelude.{◌≡◌, ◌⊎◌, ℕ, ◌≤◌, IsTrue, Result, Ok, Err}
use Rattle.std.specs.FinMap as map
use Rattle.tree_model.specs.Tree.{linked}
use Rattle.tree_model.specs.Finding.{root_of}
use Rattle.tree_machine.specs.State.{begun}
use Rattle.fid_model.specs.Moments.{Moment, Keeps}
use Rattle.frame_pump.specs.Sessions.{Session, Counted}
use Rattle.frame_pump.specs.Turns.{Streams, EndsQuietly, StopsBy}
use Rattle.fuse_wire.specs.Cuts.End.{done}
use Rattle.frame_pump.specs.declared.outcome.Pumped.{Pumped}
use Rattle.frame_pump.specs.declared.outcome.Stopped.{Stopped}
use Rattle.frame_pump.specs.declared.outcome.BridgeError.{BridgeError}
use Rattle.frame_pump.specs.declared.outcome.BridgeError.TheVariants as cause
use Rattle.fuse_gate.specs.Standing.{machine_of, piece_of}
use Rattle.fuse_gate.specs.declared.gate.Gate.{Gate}
use Rattle.fuse_gate.specs.Attaching.{IsRefusal, IsCleared}

-- the session of a gate over a server
abbrev pub session_of : Gate → Moment → Session
session_of g n = record {
  state = machine_of g n.state;
  settings = n.state.settings;
  piece = piece_of n.state;
  faults = n.faults;
  steady = n.steady;
  sent = g.nine_frames;
  asked = n.asked;
}

-- the session that a gate begins over a server: the machine begins with the linked tree, after one
-- message
pub record Opens (n0 : Moment) (s0 : Session) : Type 0 where
  pub root : ℕ
  pub limit : 1 ≤ n0.state.settings.limit
  pub found : root_of (linked n0.state.tree) n0.state.settings.root ≡ Ok root
  pub state : s0.state ≡ begun (linked n0.state.tree) root
  pub settings : s0.settings ≡ n0.state.settings
  pub piece : s0.piece ≡ piece_of n0.state
  pub rises : n0.faults ≤ s0.faults
  pub steady : s0.steady ≡ n0.steady
  pub steadily : IsTrue n0.steady → s0.faults ≡ n0.faults
  pub sent : s0.sent ≡ 1
  pub asked : Counted n0.asked 1 s0.asked

-- the server behind a session: no fid is left, and of the tree the linked records
pub record Closes (s1 : Session) (n1 : Moment) : Type 0 where
  pub fids : n1.state.fids ≡ map.empty
  pub tree : n1.state.tree ≡ linked s1.state.tree
  pub settings : n1.state.settings ≡ s1.settings
  pub faults : n1.faults ≡ s1.faults
  pub steady : n1.steady ≡ s1.steady
  pub asked : n1.asked ≡ s1.asked

-- nothing was read or written
abbrev pub SameStreams : Streams → Streams → Type 0
SameStreams p0 p1 = p1 ≡ p0

-- a session from its beginning to its end
abbrev pub Between : Moment → Moment → (Session → Session → Type 0) → Type 0
Between n0 n1 P = (s0 : Session) × (s1 : Session) × Opens n0 s0 × Closes s1 n1 × P s0 s1

-- the share couldn't be attached to, by the error number
abbrev pub AttachRefused : Moment → Moment → ℕ → Type 0
AttachRefused n0 n1 errno =
    IsCleared n0.state n1.state × IsRefusal n0.state n0.faults n1.faults errno
    × Counted n0.asked 1 n1.asked

-- a session ended or stopped, and so many messages are told
abbrev pub Told : Moment → Moment → ℕ → (Session → Session → Type 0) → Type 0
Told n0 n1 nine_frames P = Between n0 n1 (λ s0 s1. (nine_frames ≡ s1.sent) × P s0 s1)

-- nothing was read or written, since there was no memory or the attach was refused
abbrev pub NotBegun : Moment → Moment → Stopped → Type 0
NotBegun n0 n1 told =
    ((errno : ℕ) × (told.cause ≡ cause.Attach errno) × (told.nine_frames ≡ 1)
    × AttachRefused n0 n1 errno)
    ⊎ ((told.cause ≡ cause.NoMemory) × IsCleared n0.state n1.state)

-- a run, by its answer
abbrev pub PumpsBy : Moment → Moment → Streams → Streams → ℕ → Result Pumped Stopped → Type 0
PumpsBy n0 n1 p0 p1 turns (Ok told) =
    Told n0 n1 told.nine_frames
    (λ s0 s1. EndsQuietly s0 s1 (Unit {0}) p0 p1 turns told.handled done)
PumpsBy n0 n1 p0 p1 turns (Err told) =
    Told n0 n1 told.nine_frames
    (λ s0 s1. StopsBy s0 s1 (Unit {0}) p0 p1 turns told.handled told.cause)
    ⊎ ((told.handled ≡ 0) × SameStreams p0 p1 × NotBegun n0 n1 told)

pub record Pumps (n0 n1 : Moment) (p0 p1 : Streams) (turns : ℕ)
    (result : Result Pumped Stopped) : Type 0 where
  pub kept : Keeps n0 n1
  pub outcome : PumpsBy n0 n1 p0 p1 turns result

-- the number of messages that is told is what the server was handed; no memory leaves it open
abbrev pub TellsStopped : BridgeError → ℕ → ℕ → ℕ → Type 0
TellsStopped cause.NoMemory a0 sent a1 = Unit {0}
TellsStopped _ a0 sent a1 = Counted a0 sent a1

abbrev pub TellsMessages : ℕ → ℕ → Result Pumped Stopped → Type 0
TellsMessages a0 a1 (Ok told) = Counted a0 told.nine_frames a1
TellsMessages a0 a1 (Err told) = TellsStopped told.cause a0 told.nine_frames a1
