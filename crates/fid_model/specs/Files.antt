-- Messages about what a fid names: sizes, links, and what is written.
use Rattle.std.specs.Prelude.{ℕ, ◌+◌, List, length, Result}
use Rattle.std.specs.Prelude.{Ok, Err, if◌then◌else◌, nat_lt}
use Rattle.std.specs.FinMap as map
use Rattle.port_base.specs.declared.errno.TheConstants.{ENAMETOOLONG}
use Rattle.port_base.specs.declared.names.TheConstants.{NAME_LIMIT}
use Rattle.p9_wire.specs.declared.protocol.TheConstants.{RREADLINK_HEADER_SIZE}
use Rattle.tree_model.specs.Tree.{Tree}
use Rattle.tree_model.specs.Attributes.{statfs_of}
use Rattle.tree_model.specs.Attributing.{write_of}
use Rattle.tree_model.specs.Opening.{readlink_of}
pub use Rattle.tree_model.specs.OpenedFiles.{new_file_of, new_file_refused, size_at, size_told}
use Rattle.tree_model.specs.declared.attributes.Statfs.{Statfs}
use Rattle.tree_model.specs.declared.attributes.TheConstants.{BLOCK_SIZE}
use Rattle.p9_rmsg.specs.Replies.{Reply}
use Rattle.p9_rmsg.specs.Replies.Reply.{statfs as r_statfs}
use Rattle.fid_model.specs.Fids.{Fid, ServerState, appends, is_open, is_writable}
use Rattle.fid_model.specs.FidCalls.{by_fid, by_open_fid}

-- ---- sizes

-- every block and file is free
abbrev pub statfs_reply : Statfs → Reply
statfs_reply sizes = r_statfs 0 BLOCK_SIZE sizes.blocks sizes.blocks sizes.blocks sizes.files
    sizes.files 0 NAME_LIMIT

abbrev pub statfs_told : ServerState → ℕ → Result Statfs ℕ
statfs_told s fid = by_fid (λ f. Ok (statfs_of s.tree)) (map.get s.fids fid)

-- ---- what was written

-- what a fid that is open has written is kept
abbrev pub fsync_told : ServerState → ℕ → Result (Unit {0}) ℕ
fsync_told s fid = by_open_fid is_open (λ f. Ok tt) (map.get s.fids fid)

-- ---- links

-- a target that fits a frame, or its refusal
abbrev pub fitting_target : ℕ → Result (List ℕ) ℕ → Result (List ℕ) ℕ
fitting_target msize (Ok target) = if nat_lt msize (RREADLINK_HEADER_SIZE + length target)
    then Err ENAMETOOLONG else Ok target
fitting_target msize (Err e) = Err e

abbrev pub readlink_told : ServerState → ℕ → Result (List ℕ) ℕ
readlink_told s fid = by_fid (λ f. fitting_target s.msize (readlink_of s.tree f.ino))
    (map.get s.fids fid)

-- ---- writing

-- where bytes are written: at the file's end through a fid that appends
abbrev pub write_place : Tree → Fid → ℕ → ℕ
write_place t f offset = if appends f.open_state then size_at t f.ino else offset

-- how many bytes were written, through a fid that is open to write
abbrev pub write_told : ServerState → ℕ → ℕ → List ℕ → Result (ℕ × Tree) ℕ
write_told s fid offset payload =
    by_open_fid is_writable (λ f. write_of s.tree f.ino (write_place s.tree f offset) payload)
    (map.get s.fids fid)
