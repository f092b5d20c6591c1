-- What single messages answer, in the terms of those that send them.
use Rattle.std.specs.Prelude.{ℕ, List, Result, Ok, Err, if◌then◌else◌, nat_le}
use Rattle.std.specs.FinMap as map
use Rattle.port_base.specs.declared.errno.TheConstants.{ENFILE}
use Rattle.tree_model.specs.Finding.{find, root_of}
use Rattle.tree_model.specs.Attributes.{Qid, stat_of}
use Rattle.tree_model.specs.Settings.{shown_told}
use Rattle.tree_model.specs.declared.attributes.Attr.{Attr}
use Rattle.fid_model.specs.Fids.{ServerState, kept_state, closed}
use Rattle.fid_model.specs.Answers.{qid_at}

-- a new fid names what was found
abbrev pub named : ServerState → ℕ → Result ℕ ℕ → Result Qid ℕ × ServerState
named s newfid (Ok i) =
    (Ok (qid_at s.tree i), record s { fids = map.insert s.fids newfid (closed i) })
named s newfid (Err e) = (Err e, s)

-- a walk by one name that has no fault, from an inode to a new fid
abbrev pub walk_one_told : ServerState → ℕ → ℕ → List ℕ → Result Qid ℕ × ServerState
walk_one_told s dir newfid name = named s newfid (find s.settings.casefold s.tree dir name)

-- an attach to a server without fids
abbrev pub attach_told : ServerState → ℕ → Result Qid ℕ × ServerState
attach_told s fid = if nat_le s.settings.limit 0 then (Err ENFILE, s)
    else named s fid (root_of s.tree s.settings.root)

-- what is shown of an inode
abbrev pub getattr_told : ServerState → ℕ → Result Attr ℕ × ServerState
getattr_told s i = (shown_told s.settings (stat_of s.tree i), s)

-- a fid goes
abbrev pub clunked : ServerState → ℕ → ServerState
clunked s fid = kept_state (record s { fids = map.remove s.fids fid })
