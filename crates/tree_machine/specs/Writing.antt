-- WRITE: bytes go into a handle's file, as many as end by the limit.
use Rattle.std.specs.Prelude.{ℕ, List, [], ◌∷◌, Option, Some, None, Result, Ok, Err}
use Rattle.std.specs.Prelude.{if◌then◌else◌}
use Rattle.std.specs.FinMap as map
use Rattle.port_base.specs.declared.errno.TheConstants.{EBADF}
use Rattle.tree_model.specs.Attributing.{write_of}
use Rattle.tree_model.specs.OpenedFiles.{size_at}
use Rattle.tree_model.specs.Tree.{Tree}
use Rattle.tree_machine.specs.State.{MachineState, Handle}
use Rattle.tree_machine.specs.Replies.{Reply}
use Rattle.tree_machine.specs.Replies.Reply.{Refused, Written}
use Rattle.tree_machine.specs.Refusals.{refused_if, refused_unknown, first_refusal}
use Rattle.tree_machine.specs.Core.{handle_ino}
use Rattle.tree_machine.specs.Setting.{is_read_alone}

-- what is open to be read alone isn't written
abbrev pub write_refusal : Option Handle → Option ℕ
write_refusal handle = first_refusal (
    refused_unknown handle EBADF
    ∷ refused_if (is_read_alone handle) EBADF
    ∷ [])

-- where: at the file's end through a handle that appends
abbrev pub place_written : Tree → Option Handle → ℕ → ℕ
place_written t None offset = offset
place_written t (Some h) offset = if h.append then size_at t h.ino else offset

-- how many bytes are written, and the tree then
abbrev pub write_told : MachineState → ℕ → ℕ → List ℕ → Result (ℕ × Tree) ℕ
write_told m fh offset bytes =
    let handle = map.get m.handles fh in
    write_of m.tree (handle_ino handle) (place_written m.tree handle offset) bytes

abbrev pub written_reply : Result (ℕ × Tree) ℕ → Reply
written_reply (Ok (n, t)) = Written n
written_reply (Err e) = Refused e

-- a refusal leaves the tree
abbrev pub written_tree : Tree → Result (ℕ × Tree) ℕ → Tree
written_tree before (Ok (n, t)) = t
written_tree before (Err e) = before

abbrev pub wrote : MachineState → Result (ℕ × Tree) ℕ → Reply × MachineState
wrote m told = (written_reply told, record m { tree = written_tree m.tree told })
