-- The fid machine: what each message of 9P2000.L answers, and the state that it leaves.
use Rattle.std.specs.Prelude.{ℕ, ◌-◌, min, Bool, ◌&&◌, not, List, [], ◌∷◌, length, Option, Some}
use Rattle.std.specs.Prelude.{None, Result, Ok, Err, if◌then◌else◌, ◌==◌, nat_lt, nat_le}
use Rattle.std.specs.FinMap as map
use Rattle.port_base.specs.Names.{name_fault}
use Rattle.port_base.specs.declared.errno.TheConstants.{EACCES, EBADF, EINVAL, ENFILE, EOPNOTSUPP}
use Rattle.port_base.specs.declared.oflag.TheConstants.{O_APPEND}
use Rattle.tree_model.specs.Tree.{Tree}
use Rattle.tree_model.specs.Finding.{find, root_of}
use Rattle.tree_model.specs.Attributes.{Qid, qid_of, stat_of, blocks_of}
use Rattle.port_base.specs.OpenFlags.{access, has_flag}
use Rattle.tree_model.specs.Opening.{read_of}
use Rattle.tree_model.specs.Settings.{Settings, shown_of}
use Rattle.tree_model.specs.declared.attributes.Attr.{Attr}
use Rattle.tree_model.specs.declared.attributes.TheConstants.{BLOCK_SIZE}
use Rattle.p9_wire.specs.declared.protocol.TheConstants.{P9_GETATTR_BASIC, P9_MAXWELEM}
use Rattle.p9_wire.specs.declared.protocol.TheConstants.{RREAD_HEADER_SIZE}
use Rattle.p9_tmsg.specs.Messages.{Message}
use Rattle.p9_rmsg.specs.Replies.{Reply, Attributes}
use Rattle.p9_tmsg.specs.Messages.Message.{attach as t_attach, auth as t_auth, clunk as t_clunk}
use Rattle.p9_tmsg.specs.Messages.Message.{flush as t_flush, fsync as t_fsync}
use Rattle.p9_tmsg.specs.Messages.Message.{getattr as t_getattr, getlock as t_getlock}
use Rattle.p9_tmsg.specs.Messages.Message.{link as t_link, lock as t_lock, lopen as t_lopen}
use Rattle.p9_tmsg.specs.Messages.Message.{mkdir as t_mkdir, mknod as t_mknod, read as t_read}
use Rattle.p9_tmsg.specs.Messages.Message.{readdir as t_readdir, readlink as t_readlink}
use Rattle.p9_tmsg.specs.Messages.Message.{remove as t_remove}
use Rattle.p9_tmsg.specs.Messages.Message.{rename as t_rename, renameat as t_renameat}
use Rattle.p9_tmsg.specs.Messages.Message.{statfs as t_statfs, symlink as t_symlink}
use Rattle.p9_tmsg.specs.Messages.Message.{unlinkat as t_unlinkat, version as t_version}
use Rattle.p9_tmsg.specs.Messages.Message.{walk as t_walk, xattrcreate as t_xattrcreate}
use Rattle.p9_tmsg.specs.Messages.Message.{xattrwalk as t_xattrwalk, lcreate as t_lcreate}
use Rattle.p9_tmsg.specs.Messages.Message.{setattr as t_setattr, write as t_write}
use Rattle.p9_rmsg.specs.Replies.Reply.{attach as r_attach, clunk as r_clunk, flush as r_flush}
use Rattle.p9_rmsg.specs.Replies.Reply.{fsync as r_fsync, getattr as r_getattr}
use Rattle.p9_rmsg.specs.Replies.Reply.{getlock as r_getlock, lerror as r_lerror, link as r_link}
use Rattle.p9_rmsg.specs.Replies.Reply.{lock as r_lock, lopen as r_lopen, mkdir as r_mkdir}
use Rattle.p9_rmsg.specs.Replies.Reply.{read as r_read, readdir as r_readdir}
use Rattle.p9_rmsg.specs.Replies.Reply.{readlink as r_readlink}
use Rattle.p9_rmsg.specs.Replies.Reply.{renameat as r_renameat, unlinkat as r_unlinkat}
use Rattle.p9_rmsg.specs.Replies.Reply.{walk as r_walk, lcreate as r_lcreate, setattr as r_setattr}
use Rattle.p9_rmsg.specs.Replies.Reply.{write as r_write}
use Rattle.fid_model.specs.Fids.{Fid, ServerState, closed, is_readable, kept_state}
use Rattle.fid_model.specs.Fids.OpenState.{Opened}
use Rattle.fid_model.specs.FidCalls.{by_fid, told_answer}
use Rattle.fid_model.specs.TreeCalls.{tree_answer}
use Rattle.fid_model.specs.Sessions.{version_core, lock_told, getlock_told}
use Rattle.fid_model.specs.Files.{statfs_reply, statfs_told, fsync_told, readlink_told}
use Rattle.fid_model.specs.Files.{new_file_of, write_told}
use Rattle.fid_model.specs.Directories.{mkdir_told, link_told, renameat_told, unlinkat_told}
use Rattle.fid_model.specs.Listings.{readdir_told}
pub use Rattle.tree_model.specs.OpenedFiles.{emptied, emptied_where, open_of}
use Rattle.tree_model.specs.AttributeSteps.{run}
use Rattle.fid_model.specs.Setattr.{Changes, changes, steps}

-- ---- attach

abbrev pub qid_told : Result Attr ℕ → Qid
qid_told (Ok a) = qid_of a
qid_told (Err e) = (0, (0, 0))

-- the qid of an inode
abbrev pub qid_at : Tree → ℕ → Qid
qid_at t i = qid_told (stat_of t i)

abbrev pub attached : ServerState → ℕ → Result ℕ ℕ → Reply × ServerState
attached s fid (Ok i) =
    (r_attach (qid_at s.tree i), record s { fids = map.insert s.fids fid (closed i) })
attached s fid (Err e) = (r_lerror e, s)

-- a new fid for the root of the share
abbrev pub attach_core : ServerState → ℕ → Reply × ServerState
attach_core s fid =
    if map.contains_key s.fids fid then (r_lerror EBADF, s) else
    if nat_le s.settings.limit (map.len s.fids) then (r_lerror ENFILE, s) else
    attached s fid (root_of s.tree s.settings.root)

-- ---- walk

-- the qids of the names that were found, and the last inode or the first refusal
abbrev pub Walked : Type 0
Walked = List Qid × Result ℕ ℕ

abbrev pub find_unless : Option ℕ → Bool → Tree → ℕ → List ℕ → Result ℕ ℕ
find_unless (Some e) casefold t i name = Err e
find_unless None casefold t i name = find casefold t i name

-- a name in a directory, where it has no fault
abbrev pub step_to : Bool → Tree → ℕ → List ℕ → Result ℕ ℕ
step_to casefold t i name = find_unless (name_fault name) casefold t i name

abbrev pub walked_on : Tree → (ℕ → Walked) → Result ℕ ℕ → Walked
walked_on t rest (Err e) = ([], Err e)
walked_on t rest (Ok i) = (qid_at t i ∷ (rest i).0, (rest i).1)

-- name by name from an inode
abbrev pub walk_names : Bool → Tree → List (List ℕ) → ℕ → Walked
walk_names casefold t [] i = ([], Ok i)
walk_names casefold t (name ∷ names) i =
    walked_on t (walk_names casefold t names) (step_to casefold t i name)

-- the whole walk gives the new fid its inode; a walk that was refused at a later name tells the
-- qids so far
abbrev pub walk_answer : ServerState → ℕ → Walked → Reply × ServerState
walk_answer s newfid (qids, Ok i) =
    (r_walk qids, record s { fids = map.insert s.fids newfid (closed i) })
walk_answer s newfid ([], Err e) = (r_lerror e, s)
walk_answer s newfid (q ∷ qids, Err e) = (r_walk (q ∷ qids), s)

abbrev pub walk_from : ServerState → ℕ → ℕ → List (List ℕ) → Option Fid → Reply × ServerState
walk_from s fid newfid names None = (r_lerror EBADF, s)
walk_from s fid newfid names (Some f) =
    if not (newfid == fid) && nat_le s.settings.limit (map.len s.fids) then (r_lerror ENFILE, s)
    else
    if nat_lt P9_MAXWELEM (length names) then (r_lerror EINVAL, s) else
    walk_answer s newfid (walk_names s.settings.casefold s.tree names f.ino)

abbrev pub walk_core : ServerState → ℕ → ℕ → List (List ℕ) → Reply × ServerState
walk_core s fid newfid names =
    if not (newfid == fid) && map.contains_key s.fids newfid then (r_lerror EBADF, s) else
    walk_from s fid newfid names (map.get s.fids fid)

-- ---- attributes

-- the fields of Rgetattr, from what is shown of an inode
abbrev pub attributes_of : Attr → Attributes
attributes_of a = record {
  valid = P9_GETATTR_BASIC;
  qid = qid_of a;
  mode = a.mode;
  uid = a.uid;
  gid = a.gid;
  nlink = a.links;
  rdev = 0;
  size = a.size;
  blksize = BLOCK_SIZE;
  blocks = blocks_of a.size;
  atime_sec = a.atime.sec;
  atime_nsec = a.atime.nsec;
  mtime_sec = a.mtime.sec;
  mtime_nsec = a.mtime.nsec;
  ctime_sec = a.ctime.sec;
  ctime_nsec = a.ctime.nsec;
  btime_sec = 0;
  btime_nsec = 0;
  generation = 0;
  data_version = 0;
}

abbrev pub getattr_reply : Settings → Result Attr ℕ → Reply
getattr_reply settings (Ok a) = r_getattr (attributes_of (shown_of settings a))
getattr_reply settings (Err e) = r_lerror e

abbrev pub getattr_by : ServerState → Option Fid → Reply
getattr_by s None = r_lerror EBADF
getattr_by s (Some f) = getattr_reply s.settings (stat_of s.tree f.ino)

-- ---- opening and reading

-- the fid as it is open by these flags
abbrev pub opened : Fid → ℕ → Fid
opened f flags = record f { open_state = Opened (access flags) (has_flag O_APPEND flags) }

abbrev pub lopen_answer : ServerState → ℕ → ℕ → Fid → Result (Unit {0} × Tree) ℕ → Reply
    × ServerState
lopen_answer s fid flags f (Ok (u, t)) = (
  r_lopen (qid_at t f.ino) 0,
  record s {
    tree = t;
    fids = map.insert s.fids fid (opened f flags);
  },
)
lopen_answer s fid flags f (Err e) = (r_lerror e, s)

-- the fid is open so, also if it was before
abbrev pub lopen_by : ServerState → ℕ → ℕ → Option Fid → Reply × ServerState
lopen_by s fid flags None = (r_lerror EBADF, s)
lopen_by s fid flags (Some f) = lopen_answer s fid flags f (open_of s.tree f.ino flags)

-- the fid names the new file, and is open so
abbrev pub lcreate_answer : ServerState → ℕ → ℕ → Result (ℕ × Tree) ℕ → Reply × ServerState
lcreate_answer s fid flags (Ok (ino, t)) = (
  r_lcreate (qid_at t ino) 0,
  record s {
    tree = t;
    fids = map.insert s.fids fid (opened (closed ino) flags);
  },
)
lcreate_answer s fid flags (Err e) = (r_lerror e, s)

abbrev pub lcreate_core : ServerState → ℕ → List ℕ → ℕ → ℕ → Reply × ServerState
lcreate_core s fid name flags mode =
    lcreate_answer s fid flags
    (by_fid (λ f. new_file_of s.tree f.ino name flags mode) (map.get s.fids fid))

abbrev pub read_reply : Result (List ℕ) ℕ → Reply
read_reply (Ok bytes) = r_read bytes
read_reply (Err e) = r_lerror e

-- as many bytes as there are, are asked for and fit a frame
abbrev pub read_by : ServerState → ℕ → ℕ → Option Fid → Reply
read_by s offset count None = r_lerror EBADF
read_by s offset count (Some f) =
    if is_readable f.open_state
    then read_reply (read_of s.tree f.ino offset (min count (s.msize - RREAD_HEADER_SIZE)))
    else r_lerror EBADF

-- ---- attributes that are set

abbrev pub setattr_reply : Result (Unit {0}) ℕ → Reply
setattr_reply (Ok u) = r_setattr
setattr_reply (Err e) = r_lerror e

-- a step that was done stays where a later one is refused
abbrev pub setattr_by : ServerState → Changes → Option Fid → Reply × ServerState
setattr_by s c None = (r_lerror EBADF, s)
setattr_by s c (Some f) =
    (setattr_reply (run (steps c f) s.tree).0, record s { tree = (run (steps c f) s.tree).1 })

-- ---- clunk

abbrev pub clunk_by : ServerState → ℕ → Option Fid → Reply × ServerState
clunk_by s fid None = (r_lerror EBADF, s)
clunk_by s fid (Some f) = (r_clunk, record s { fids = map.remove s.fids fid })

-- ---- all messages

abbrev pub core : ServerState → Message → Reply × ServerState
core s (t_version msize protocol) = version_core s msize protocol
core s (t_flush oldtag) = (r_flush, s)
core s (t_lock fid kind_ flags start length_ proc_id client_id) =
    told_answer s (λ _. r_lock 0) (lock_told s fid)
core s (t_getlock fid kind_ start length_ proc_id client_id) =
    told_answer s (r_getlock 2 start length_ proc_id) (getlock_told s fid client_id)
core s (t_statfs fid) = told_answer s statfs_reply (statfs_told s fid)
core s (t_fsync fid datasync) = told_answer s (λ _. r_fsync) (fsync_told s fid)
core s (t_readlink fid) = told_answer s r_readlink (readlink_told s fid)
core s (t_auth afid uname aname n_uname) = (r_lerror EOPNOTSUPP, s)
core s (t_remove fid) = (r_lerror EOPNOTSUPP, s)
core s (t_rename fid dfid name) = (r_lerror EOPNOTSUPP, s)
core s (t_xattrwalk fid newfid name) = (r_lerror EOPNOTSUPP, s)
core s (t_xattrcreate fid name attr_size flags) = (r_lerror EOPNOTSUPP, s)
core s (t_attach fid afid uname aname n_uname) = attach_core s fid
core s (t_walk fid newfid wnames) = walk_core s fid newfid wnames
core s (t_getattr fid request_mask) = (getattr_by s (map.get s.fids fid), s)
core s (t_clunk fid) = clunk_by s fid (map.get s.fids fid)
core s (t_lopen fid flags) = lopen_by s fid flags (map.get s.fids fid)
core s (t_lcreate fid name flags mode gid) = lcreate_core s fid name flags mode
core s (t_write fid offset payload) = tree_answer s r_write (write_told s fid offset payload)
core s (t_setattr fid valid mode uid gid size atime_sec atime_nsec mtime_sec mtime_nsec) =
    setattr_by s (changes valid mode uid gid size atime_sec atime_nsec mtime_sec mtime_nsec)
    (map.get s.fids fid)
core s (t_read fid offset count) = (read_by s offset count (map.get s.fids fid), s)
core s (t_mkdir dfid name mode gid) =
    tree_answer s (λ a. r_mkdir (qid_of a)) (mkdir_told s dfid name mode)
core s (t_link dfid fid name) = tree_answer s (λ _. r_link) (link_told s dfid fid name)
core s (t_renameat olddirfid oldname newdirfid newname) =
    tree_answer s (λ _. r_renameat) (renameat_told s olddirfid oldname newdirfid newname)
core s (t_unlinkat dirfd name flags) =
    tree_answer s (λ _. r_unlinkat) (unlinkat_told s dirfd name flags)
core s (t_symlink fid name symtgt gid) = (r_lerror EACCES, s)
core s (t_mknod dfid name mode major minor gid) = (r_lerror EACCES, s)
core s (t_readdir fid offset count) =
    told_answer s r_readdir (readdir_told s fid offset count)

-- the reply to a message, and the state after it
abbrev pub answer : ServerState → Message → Reply × ServerState
answer s m = ((core s m).0, kept_state (core s m).1)
