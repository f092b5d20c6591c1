-- What the calls give, without where it lies in memory.
use Rattle.std.specs.Prelude.{◌≡◌, ◌⊎◌, ℕ, ◌≤◌, List, [], ◌∷◌, Option, Some, None, Result, Ok, Err}
use Rattle.tree_model.specs.Attributes.{Qid}
use Rattle.tree_model.specs.declared.attributes.Attr.{Attr}
use Rattle.p9_wire.specs.declared.qid.Qid.{Qid as QidStruct}
use Rattle.p9_wire.specs.declared.data.Data.{Data}
use Rattle.p9_wire.specs.Qids.{qid_of}
use Rattle.p9_rmsg.specs.declared.message.Rgetattr.{Rgetattr}
use Rattle.p9_rmsg.specs.Replies.{Attributes, attributes_of, Reply}
use Rattle.p9_rmsg.specs.Replies.Reply.{attach as r_attach, getattr as r_getattr}
use Rattle.p9_rmsg.specs.Replies.Reply.{lerror as r_lerror, lopen as r_lopen, read as r_read}
use Rattle.p9_rmsg.specs.Replies.Reply.{lcreate as r_lcreate, mkdir as r_mkdir, mknod as r_mknod}
use Rattle.p9_rmsg.specs.Replies.Reply.{readdir as r_readdir, readlink as r_readlink}
use Rattle.p9_rmsg.specs.Replies.Reply.{symlink as r_symlink}
use Rattle.p9_rmsg.specs.Replies.Reply.{statfs as r_statfs, walk as r_walk, write as r_write}
use Rattle.p9_rmsg.specs.declared.message.Rstatfs.{Rstatfs}
use Rattle.tree_model.specs.declared.attributes.Statfs.{Statfs}
use Rattle.fid_model.specs.Files.{statfs_reply}
use Rattle.fid_model.specs.Answers.{attributes_of as attributes_shown}
use Rattle.fid_model.specs.Fids.{ServerState}
use Rattle.fid_model.specs.Calls.{getattr_told, clunked}
use Rattle.fid_model.specs.Moments.{Moment, AskedOne}

abbrev pub qid_answer : Result QidStruct ℕ → Result Qid ℕ
qid_answer (Ok q) = Ok (qid_of q)
qid_answer (Err e) = Err e

abbrev pub bytes_answer : Result Data ℕ → Result (List ℕ) ℕ
bytes_answer (Ok d) = Ok d.0.items
bytes_answer (Err e) = Err e

abbrev pub attributes_answer : Result Rgetattr ℕ → Result Attributes ℕ
attributes_answer (Ok m) = Ok (attributes_of m)
attributes_answer (Err e) = Err e

-- the sizes of a tree, as 9P lays them out
abbrev pub sizes_answer : Result Rstatfs ℕ → Result Reply ℕ
sizes_answer (Ok m) = Ok (r_statfs m.ty m.bsize m.blocks m.bfree m.bavail m.files m.ffree m.fsid
    m.namelen)
sizes_answer (Err e) = Err e

abbrev pub sizes_told : Result Statfs ℕ → Result Reply ℕ
sizes_told (Ok sizes) = Ok (statfs_reply sizes)
sizes_told (Err e) = Err e

-- what is shown of an inode, as 9P lays it out
abbrev pub laid_out : Result Attr ℕ → Result Attributes ℕ
laid_out (Ok a) = Ok (attributes_shown a)
laid_out (Err e) = Err e

-- the server takes every frame that these calls send: one with the longest name has 274 bytes
pub record IsRoomy (s : ServerState) : Type 0 where
  pub enough : 4352 ≤ s.msize

-- the attributes of an inode, as 9P lays them out
abbrev pub attributes_told : ServerState → ℕ → Result Attributes ℕ × ServerState
attributes_told s ino = (laid_out (getattr_told s ino).0, (getattr_told s ino).1)

-- one message let a fid go
pub record FidGone (fid : ℕ) (old new : Moment) : Type 0 where
  pub state : new.state ≡ clunked old.state fid
  pub asked : AskedOne old new

-- a fid went, or nothing did
abbrev pub FidGoneOrNot : ℕ → Moment → Moment → Type 0
FidGoneOrNot fid old new = (new.state ≡ old.state) ⊎ (new.state ≡ clunked old.state fid)

-- ---- replies, as the calls read them: their own answer or a refusal, and none of a reply of
-- another kind

abbrev pub attach_view : Reply → Option (Result Qid ℕ)
attach_view (r_attach qid) = Some (Ok qid)
attach_view (r_lerror e) = Some (Err e)
attach_view _ = None

-- a walk by one name
abbrev pub walk_one_view : Reply → Option (Result Qid ℕ)
walk_one_view (r_walk (qid ∷ [])) = Some (Ok qid)
walk_one_view (r_lerror e) = Some (Err e)
walk_one_view _ = None

-- a walk by no name
abbrev pub copy_view : Reply → Option (Result (Unit {0}) ℕ)
copy_view (r_walk qids) = Some (Ok tt)
copy_view (r_lerror e) = Some (Err e)
copy_view _ = None

abbrev pub open_view : Reply → Option (Result Qid ℕ)
open_view (r_lopen qid iounit) = Some (Ok qid)
open_view (r_lerror e) = Some (Err e)
open_view _ = None

abbrev pub attributes_view : Reply → Option (Result Attributes ℕ)
attributes_view (r_getattr attributes) = Some (Ok attributes)
attributes_view (r_lerror e) = Some (Err e)
attributes_view _ = None

abbrev pub read_view : Reply → Option (Result (List ℕ) ℕ)
read_view (r_read bytes) = Some (Ok bytes)
read_view (r_lerror e) = Some (Err e)
read_view _ = None

abbrev pub mkdir_view : Reply → Option (Result Qid ℕ)
mkdir_view (r_mkdir qid) = Some (Ok qid)
mkdir_view (r_lerror e) = Some (Err e)
mkdir_view _ = None

abbrev pub write_view : Reply → Option (Result ℕ ℕ)
write_view (r_write count) = Some (Ok count)
write_view (r_lerror e) = Some (Err e)
write_view _ = None

abbrev pub sizes_view : Reply → Option (Result Reply ℕ)
sizes_view (r_statfs ty bsize blocks bfree bavail files ffree fsid namelen) =
    Some (Ok (r_statfs ty bsize blocks bfree bavail files ffree fsid namelen))
sizes_view (r_lerror e) = Some (Err e)
sizes_view _ = None

abbrev pub page_view : Reply → Option (Result (List ℕ) ℕ)
page_view (r_readdir bytes) = Some (Ok bytes)
page_view (r_lerror e) = Some (Err e)
page_view _ = None

abbrev pub readlink_view : Reply → Option (Result (List ℕ) ℕ)
readlink_view (r_readlink target) = Some (Ok target)
readlink_view (r_lerror e) = Some (Err e)
readlink_view _ = None

abbrev pub create_view : Reply → Option (Result Qid ℕ)
create_view (r_lcreate qid iounit) = Some (Ok qid)
create_view (r_lerror e) = Some (Err e)
create_view _ = None

abbrev pub symlink_view : Reply → Option (Result Qid ℕ)
symlink_view (r_symlink qid) = Some (Ok qid)
symlink_view (r_lerror e) = Some (Err e)
symlink_view _ = None

abbrev pub mknod_view : Reply → Option (Result Qid ℕ)
mknod_view (r_mknod qid) = Some (Ok qid)
mknod_view (r_lerror e) = Some (Err e)
mknod_view _ = None
