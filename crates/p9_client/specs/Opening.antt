-- What opening and reading answer, in the terms of those that ask.
use Rattle.std.specs.Prelude.{ℕ, ◌-◌, min, Bool, false, List, Option, Some, None, Result, Ok, Err}
use Rattle.std.specs.FinMap as map
use Rattle.port_base.specs.declared.errno.TheConstants.{EBADF}
use Rattle.tree_model.specs.Attributes.{Qid}
use Rattle.tree_model.specs.Opening.{open_check_of, read_of}
use Rattle.tree_model.specs.Tree.{Tree}
use Rattle.fid_model.specs.FidCalls.{by_fid}
use Rattle.fid_model.specs.Files.{new_file_of}
use Rattle.fid_model.specs.Fids.{ServerState, Fid, closed, is_readable, kept_state}
use Rattle.p9_wire.specs.declared.protocol.TheConstants.{RREAD_HEADER_SIZE}
use Rattle.fid_model.specs.Answers.{open_of, opened, qid_at}

-- a new fid names an inode that another names
abbrev pub copied_told : ServerState → ℕ → ℕ → Result (Unit {0}) ℕ × ServerState
copied_told s ino newfid = (Ok tt, record s { fids = map.insert s.fids newfid (closed ino) })

abbrev pub opened_by : ServerState → ℕ → Fid → ℕ → Result (Unit {0}) ℕ → Result Qid ℕ × ServerState
opened_by s fid f flags (Ok u) =
    (Ok (qid_at s.tree f.ino), record s { fids = map.insert s.fids fid (opened f flags) })
opened_by s fid f flags (Err e) = (Err e, s)

-- a fid is open by these flags
abbrev pub opened_told : ServerState → ℕ → Fid → ℕ → Result Qid ℕ × ServerState
opened_told s fid f flags = opened_by s fid f flags (open_check_of s.tree f.ino flags)

-- a fid is open by flags that may empty its file
abbrev pub opened_or_emptied : ServerState → ℕ → ℕ → Fid → Result (Unit {0} × Tree) ℕ
    → Result Qid ℕ × ServerState
opened_or_emptied s fid flags f (Ok (u, t)) = (
  Ok (qid_at t f.ino),
  kept_state (record s {
    tree = t;
    fids = map.insert s.fids fid (opened f flags);
  }),
)
opened_or_emptied s fid flags f (Err e) = (Err e, s)

abbrev pub emptied_by : ServerState → ℕ → ℕ → Option Fid → Result Qid ℕ × ServerState
emptied_by s fid flags None = (Err EBADF, s)
emptied_by s fid flags (Some f) =
    opened_or_emptied s fid flags f (open_of s.tree f.ino flags)

abbrev pub emptied_told : ServerState → ℕ → ℕ → Result Qid ℕ × ServerState
emptied_told s fid flags = emptied_by s fid flags (map.get s.fids fid)

-- the fid is there, and open for more than writing
abbrev pub is_readable_at : Option Fid → Bool
is_readable_at None = false
is_readable_at (Some f) = is_readable f.open_state

-- the bytes of an inode from an offset on, as many as there are, are asked for and fit a frame
abbrev pub read_told : ServerState → ℕ → ℕ → ℕ → Result (List ℕ) ℕ × ServerState
read_told s ino offset count =
    (read_of s.tree ino offset (min count (s.msize - RREAD_HEADER_SIZE)), s)

-- a fid names the file that was made, and is open so
abbrev pub created : ServerState → ℕ → ℕ → Result (ℕ × Tree) ℕ → Result Qid ℕ × ServerState
created s fid flags (Ok (ino, t)) = (
  Ok (qid_at t ino),
  kept_state (record s {
    tree = t;
    fids = map.insert s.fids fid (opened (closed ino) flags);
  }),
)
created s fid flags (Err e) = (Err e, s)

abbrev pub created_told : ServerState → ℕ → List ℕ → ℕ → ℕ → Result Qid ℕ × ServerState
created_told s fid name flags mode = created s fid flags
    (by_fid (λ f. new_file_of s.tree f.ino name flags mode) (map.get s.fids fid))
