-- What a new gate begins with.
use Rattle.std.specs.Prelude.{◌≡◌, ◌⊎◌, ℕ, ◌≤◌, Result, Ok, Err, nat_le, if◌then◌else◌}
use Rattle.std.specs.FinMap as map
use Rattle.port_base.specs.Faults.{Rose}
use Rattle.port_base.specs.declared.errno.TheConstants.{EIO, ENFILE}
use Rattle.tree_model.specs.Tree.{linked}
use Rattle.tree_model.specs.Finding.{root_of}
use Rattle.fuse_wire.specs.declared.protocol.TheConstants.{FUSE_ROOT_ID}
use Rattle.tree_machine.specs.State.{begun}
use Rattle.fid_model.specs.Fids.{ServerState}
use Rattle.fid_model.specs.Moments.{Moment}
use Rattle.frame_pump.specs.Sessions.{Counted}
use Rattle.fuse_gate.specs.Standing.{IsInStep, machine_of}
use Rattle.fuse_gate.specs.declared.gate.Gate.{Gate}
use Rattle.fuse_gate.specs.declared.gate.Phase.TheVariants.{New}
use Rattle.fuse_gate.specs.declared.gate.attach.AttachError.{AttachError}
use Rattle.fuse_gate.specs.declared.gate.attach.AttachError.TheVariants.{Errno, NoMemory}

-- the root of the share in the linked tree; ENFILE where there may be no fid
abbrev pub root_told : ServerState → Result ℕ ℕ
root_told s = if nat_le s.settings.limit 0 then Err ENFILE else root_of (linked s.tree)
    s.settings.root

-- a gate at the beginning of a session, over the root of the share
pub record Begins (g : Gate) (s0 s1 : ServerState) : Type 0 where
  pub stands : IsInStep g s1
  pub root : ℕ
  pub limit : 1 ≤ s0.settings.limit
  pub found : root_of (linked s0.tree) s0.settings.root ≡ Ok root
  pub state : machine_of g s1 ≡ begun (linked s0.tree) root
  pub frames : g.nine_frames ≡ 1

-- a new gate's tables: the root as node 1, and nothing else
pub record IsGateAt (ino kind : ℕ) (g : Gate) : Type 0 where
  pub phase : g.phase ≡ New
  pub nodes : g.nodes ≡ map.insert map.empty FUSE_ROOT_ID
      (record { ino = ino; count = 1; kind = kind })
  pub handles : g.handles ≡ map.empty
  pub ids : g.ids ≡ map.insert map.empty ino FUSE_ROOT_ID
  pub next : g.next ≡ 2
  pub used : g.used ≡ 1
  pub frames : g.nine_frames ≡ 1

-- the server without a fid, and its linked tree
pub record IsCleared (s0 s1 : ServerState) : Type 0 where
  pub fids : s1.fids ≡ map.empty
  pub tree : s1.tree ≡ linked s0.tree

-- where there may be no fid, that is told, whatever else failed
abbrev pub refusal : ℕ → ℕ → ℕ
refusal limit errno = if nat_le limit 0 then ENFILE else errno

-- the refusal that is told; or, only where there may be fids and the count of faults rose, EIO
abbrev pub IsRefusal : ServerState → ℕ → ℕ → ℕ → Type 0
IsRefusal s f0 f1 e = (root_told s ≡ Err e) ⊎ (Rose f0 f1 × (e ≡ EIO) × (1 ≤ s.settings.limit))

-- by the answer: the beginning; a refusal; no memory
abbrev pub AttachedBy : Moment → Moment → Result Gate AttachError → Type 0
AttachedBy old new (Ok g) = Begins g old.state new.state × Counted old.asked 1 new.asked
AttachedBy old new (Err (Errno e)) =
    IsCleared old.state new.state × IsRefusal old.state old.faults new.faults e
    × Counted old.asked 1 new.asked
AttachedBy old new (Err NoMemory) = IsCleared old.state new.state
