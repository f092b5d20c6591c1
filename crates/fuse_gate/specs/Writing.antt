-- WRITE: what a fid writes, piece by piece.
use Rattle.std.specs.Prelude.{◌≡◌, ℕ, true, List, length, Some}
use Rattle.std.specs.FinMap as map
use Rattle.tree_model.specs.Tree.{Tree, body_at}
use Rattle.tree_model.specs.Tree.Body.{File}
use Rattle.tree_machine.specs.Replies.{Reply}
use Rattle.tree_machine.specs.Writing.{written_tree, wrote}
use Rattle.tree_machine.specs.Messages.{write_messages, write_piece}
use Rattle.tree_machine.specs.Faults.{IsAfterFront}
use Rattle.fid_model.specs.Fids.{ServerState, Fid, is_writable}
use Rattle.fid_model.specs.Files.{write_told}
use Rattle.fid_model.specs.Moments.{Moment}
use Rattle.fuse_gate.specs.Standing.{piece_of}
use Rattle.fuse_gate.specs.Steps.{Serves, machine_at}
use Rattle.fuse_gate.specs.declared.gate.Gate.{Gate}

-- the fid is open to be written, and names a file
pub record WritesFile (s : ServerState) (fid : ℕ) : Type 0 where
  pub f : Fid
  pub at : map.get s.fids fid ≡ Some f
  pub writable : is_writable f.open_state ≡ true
  pub bytes : List ℕ
  pub file : body_at s.tree.records f.ino ≡ Some (File bytes)

-- the tree after a front part of the bytes
abbrev pub LeavesFront : ℕ → ℕ → List ℕ → ServerState → Tree → Type 0
LeavesFront fid offset bytes s t =
    IsAfterFront (λ xs. written_tree s.tree (write_told s fid offset xs)) bytes t

-- bytes are written by a fid, piece by piece
abbrev pub ServesWriting : ℕ → ℕ → List ℕ → Gate × Moment → Gate × Moment → Reply → Type 0
ServesWriting fid offset bytes old new reply =
    let s = old.1.state in
    let told = write_told s fid offset bytes in
    Serves (wrote (machine_at old) told)
    (write_messages (write_piece (piece_of s)) (length bytes) told)
    (LeavesFront fid offset bytes s) old new reply
