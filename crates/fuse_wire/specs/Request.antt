-- What a frame asks, by the bodies that fuse.h (protocol 7) lays out.
use Rattle.std.specs.Prelude.{ℕ, ◌*◌, List, length, drop, Option, Some, None, Result, Err, ◌==◌}
use Rattle.std.specs.Prelude.{nat_lt, if◌then◌else◌}
use Rattle.std.specs.Option.{option_map, ok_or}
use Rattle.port_base.specs.declared.errno.TheConstants.{EINVAL, ENOSYS}
use Rattle.fuse_wire.specs.declared.head.TheConstants.{IN_HEADER_SIZE}
use Rattle.fuse_wire.specs.declared.opcode.TheConstants.{FUSE_LOOKUP, FUSE_GETATTR, FUSE_INIT}
use Rattle.fuse_wire.specs.declared.opcode.TheConstants.{FUSE_OPEN, FUSE_READ, FUSE_FLUSH}
use Rattle.fuse_wire.specs.declared.opcode.TheConstants.{FUSE_RELEASE, FUSE_FORGET}
use Rattle.fuse_wire.specs.declared.opcode.TheConstants.{FUSE_BATCH_FORGET, FUSE_GETATTR_FH}
use Rattle.fuse_wire.specs.declared.opcode.TheConstants.{FUSE_UNLINK, FUSE_RMDIR, FUSE_RENAME}
use Rattle.fuse_wire.specs.declared.opcode.TheConstants.{FUSE_RENAME2, FUSE_SYMLINK, FUSE_MKNOD}
use Rattle.fuse_wire.specs.declared.opcode.TheConstants.{FUSE_OPENDIR, FUSE_READDIR}
use Rattle.fuse_wire.specs.declared.opcode.TheConstants.{FUSE_RELEASEDIR, FUSE_READLINK}
use Rattle.fuse_wire.specs.declared.opcode.TheConstants.{FUSE_STATFS, FUSE_FSYNC, FUSE_FSYNCDIR}
use Rattle.fuse_wire.specs.declared.opcode.TheConstants.{FUSE_INTERRUPT, FUSE_DESTROY, FUSE_MKDIR}
use Rattle.fuse_wire.specs.declared.opcode.TheConstants.{FUSE_SETATTR, FUSE_WRITE, FUSE_LINK}
use Rattle.fuse_wire.specs.declared.opcode.TheConstants.{FUSE_CREATE}
use Rattle.fuse_wire.specs.declared.setattr.SetAttrIn.{SetAttrIn}
use Rattle.fuse_wire.specs.declared.layouts.TheConstants.{SETATTR_IN_SIZE, WRITE_IN_SIZE}
use Rattle.fuse_wire.specs.declared.layouts.ReadIn.{ReadIn}
use Rattle.fuse_wire.specs.declared.layouts.SyncIn.{SyncIn}
use Rattle.fuse_wire.specs.declared.layouts.TheConstants.{INIT_IN_SIZE, GETATTR_IN_SIZE}
use Rattle.fuse_wire.specs.declared.layouts.TheConstants.{FORGET_IN_SIZE, BATCH_FORGET_IN_SIZE}
use Rattle.fuse_wire.specs.declared.layouts.TheConstants.{MKNOD_IN_SIZE, MKDIR_IN_SIZE}
use Rattle.fuse_wire.specs.declared.layouts.TheConstants.{LINK_IN_SIZE, CREATE_IN_SIZE}
use Rattle.fuse_wire.specs.declared.layouts.TheConstants.{RENAME_IN_SIZE}
use Rattle.fuse_wire.specs.declared.layouts.TheConstants.{RENAME2_IN_SIZE, INTERRUPT_IN_SIZE}
use Rattle.fuse_wire.specs.declared.request.TheConstants.{FORGET_ONE_SIZE}
use Rattle.fuse_wire.specs.Fields.{u32_at, u64_at, given}
use Rattle.fuse_wire.specs.Head.{head_of}
use Rattle.fuse_wire.specs.Layouts.{only_name, name_behind, two_names, two_names_behind}
use Rattle.fuse_wire.specs.Layouts.{flags_of, read_in_of, handle_of, sync_in_of}

-- what a request asks of the node in its head
pub data Request : Type 0 where
  init : (major minor max_readahead flags : ℕ) → Request
  lookup : (name : List ℕ) → Request
  getattr : (handle : Option ℕ) → Request
  setattr : (asked : SetAttrIn) → Request
  unlink : (name : List ℕ) → Request
  rmdir : (name : List ℕ) → Request
  rename : (newdir : ℕ) (old new : List ℕ) → Request
  rename2 : (newdir flags : ℕ) (old new : List ℕ) → Request
  symlink : (name target : List ℕ) → Request
  mknod : (mode rdev : ℕ) (name : List ℕ) → Request
  mkdir : (mode : ℕ) (name : List ℕ) → Request
  link : (old : ℕ) (name : List ℕ) → Request
  create : (flags mode : ℕ) (name : List ℕ) → Request
  readlink : Request
  statfs : Request
  open_file : (flags : ℕ) → Request
  read : (fh offset size flags : ℕ) (lock : Option ℕ) → Request
  write : (fh offset : ℕ) (bytes : List ℕ) → Request
  opendir : (flags : ℕ) → Request
  readdir : (fh offset size flags : ℕ) (lock : Option ℕ) → Request
  releasedir : (fh : ℕ) → Request
  flush : (fh : ℕ) → Request
  release : (fh : ℕ) → Request
  fsync : (fh flags : ℕ) → Request
  fsyncdir : (fh flags : ℕ) → Request
  forget : (nlookup : ℕ) → Request
  batch_forget : (pairs : List ℕ) → Request
  interrupt : Request
  destroy : Request

-- ---- the bodies, each exactly of its length

-- four numbers of 4 bytes, and then any bytes
unfoldable pub init_of : List ℕ → Option Request
init_of body = if nat_lt (length body) INIT_IN_SIZE then None else Some
    (init (u32_at body 0) (u32_at body 4) (u32_at body 8) (u32_at body 12))

-- exactly flags of 4 bytes, 4 bytes that are ignored, and a handle of 8
unfoldable pub getattr_of : List ℕ → Option Request
getattr_of body = if length body == GETATTR_IN_SIZE then Some
    (getattr (given (u32_at body 0) FUSE_GETATTR_FH (u64_at body 8))) else None

-- bits of 4 bytes and 4 that are ignored; a handle, a size, the owner of a lock and three times of 8
-- bytes each; their nanoseconds and a mode of 4, and 4 that are ignored; a user and a group of 4, and
-- 4 that are ignored
unfoldable pub setattr_of : List ℕ → Option Request
setattr_of body = if length body == SETATTR_IN_SIZE then Some (setattr (record {
  valid = u32_at body 0;
  fh = u64_at body 8;
  size = u64_at body 16;
  lock_owner = u64_at body 24;
  atime = u64_at body 32;
  mtime = u64_at body 40;
  ctime = u64_at body 48;
  atimensec = u32_at body 56;
  mtimensec = u32_at body 60;
  ctimensec = u32_at body 64;
  mode = u32_at body 68;
  uid = u32_at body 76;
  gid = u32_at body 80;
})) else None

abbrev pub asks_read : ReadIn → Request
asks_read r = read r.fh r.offset r.size r.flags r.lock

abbrev pub asks_readdir : ReadIn → Request
asks_readdir r = readdir r.fh r.offset r.size r.flags r.lock

-- a handle and an offset of 8 bytes each, how many bytes there are in 4, 20 bytes that are ignored,
-- and the bytes
unfoldable pub write_of : List ℕ → Option Request
write_of body =
    if nat_lt (length body) WRITE_IN_SIZE then None else
    if length (drop WRITE_IN_SIZE body) == u32_at body 16 then Some
    (write (u64_at body 0) (u64_at body 8) (drop WRITE_IN_SIZE body)) else None

abbrev pub asks_fsync : SyncIn → Request
asks_fsync r = fsync r.fh r.flags

abbrev pub asks_fsyncdir : SyncIn → Request
asks_fsyncdir r = fsyncdir r.fh r.flags

-- a directory of 8 bytes, and two names
abbrev pub asks_rename : ℕ → List ℕ × List ℕ → Request
asks_rename newdir names = rename newdir names.0 names.1

unfoldable pub rename_of : List ℕ → Option Request
rename_of body =
    option_map (asks_rename (u64_at body 0)) (two_names_behind RENAME_IN_SIZE body)

-- a directory of 8 bytes, flags of 4, 4 bytes that are ignored, and two names
abbrev pub asks_rename2 : ℕ → ℕ → List ℕ × List ℕ → Request
asks_rename2 newdir flags names = rename2 newdir flags names.0 names.1

unfoldable pub rename2_of : List ℕ → Option Request
rename2_of body = option_map (asks_rename2 (u64_at body 0) (u32_at body 8))
    (two_names_behind RENAME2_IN_SIZE body)

-- a name, and a target with a zero byte after it
abbrev pub asks_symlink : List ℕ × List ℕ → Request
asks_symlink names = symlink names.0 names.1

-- a mode and a device of 4 bytes each, 8 bytes that are ignored, and a name
unfoldable pub mknod_of : List ℕ → Option Request
mknod_of body =
    option_map (mknod (u32_at body 0) (u32_at body 4)) (name_behind MKNOD_IN_SIZE body)

-- a mode of 4 bytes, 4 bytes that are ignored, and a name
unfoldable pub mkdir_of : List ℕ → Option Request
mkdir_of body = option_map (mkdir (u32_at body 0)) (name_behind MKDIR_IN_SIZE body)

-- a node of 8 bytes, and a name
unfoldable pub link_of : List ℕ → Option Request
link_of body = option_map (link (u64_at body 0)) (name_behind LINK_IN_SIZE body)

-- flags and a mode of 4 bytes each, 8 bytes that are ignored, and a name
unfoldable pub create_of : List ℕ → Option Request
create_of body =
    option_map (create (u32_at body 0) (u32_at body 4)) (name_behind CREATE_IN_SIZE body)

-- a number of 8 bytes
unfoldable pub forget_of : List ℕ → Option Request
forget_of body = if length body == FORGET_IN_SIZE then Some (forget (u64_at body 0)) else None

-- how many pairs there are, 4 bytes that are ignored, and pairs of a node id and a number of 8
-- bytes each
unfoldable pub batch_forget_of : List ℕ → Option Request
batch_forget_of body =
    if nat_lt (length body) BATCH_FORGET_IN_SIZE then None else
    if length (drop BATCH_FORGET_IN_SIZE body) == u32_at body 0 * FORGET_ONE_SIZE then Some
    (batch_forget (drop BATCH_FORGET_IN_SIZE body)) else None

-- a body of so many bytes, which tell nothing
abbrev pub sized : ℕ → Request → List ℕ → Option Request
sized size r body = if length body == size then Some r else None

-- ---- requests by their opcode

-- ENOSYS for an opcode that isn't served, EINVAL for a body outside its grammar
unfoldable pub request_in : ℕ → List ℕ → Result Request ℕ
request_in opcode body =
    if opcode == FUSE_LOOKUP then ok_or (option_map lookup (only_name body)) EINVAL else
    if opcode == FUSE_GETATTR then ok_or (getattr_of body) EINVAL else
    if opcode == FUSE_SETATTR then ok_or (setattr_of body) EINVAL else
    if opcode == FUSE_INIT then ok_or (init_of body) EINVAL else
    if opcode == FUSE_OPEN then ok_or (option_map open_file (flags_of body)) EINVAL else
    if opcode == FUSE_READ then ok_or (option_map asks_read (read_in_of body)) EINVAL else
    if opcode == FUSE_WRITE then ok_or (write_of body) EINVAL else
    if opcode == FUSE_FLUSH then ok_or (option_map flush (handle_of body)) EINVAL else
    if opcode == FUSE_RELEASE then ok_or (option_map release (handle_of body)) EINVAL else
    if opcode == FUSE_UNLINK then ok_or (option_map unlink (only_name body)) EINVAL else
    if opcode == FUSE_RMDIR then ok_or (option_map rmdir (only_name body)) EINVAL else
    if opcode == FUSE_RENAME then ok_or (rename_of body) EINVAL else
    if opcode == FUSE_RENAME2 then ok_or (rename2_of body) EINVAL else
    if opcode == FUSE_SYMLINK then ok_or (option_map asks_symlink (two_names body)) EINVAL else
    if opcode == FUSE_MKNOD then ok_or (mknod_of body) EINVAL else
    if opcode == FUSE_MKDIR then ok_or (mkdir_of body) EINVAL else
    if opcode == FUSE_LINK then ok_or (link_of body) EINVAL else
    if opcode == FUSE_CREATE then ok_or (create_of body) EINVAL else
    if opcode == FUSE_READLINK then ok_or (sized 0 readlink body) EINVAL else
    if opcode == FUSE_STATFS then ok_or (sized 0 statfs body) EINVAL else
    if opcode == FUSE_OPENDIR then ok_or (option_map opendir (flags_of body)) EINVAL else
    if opcode == FUSE_READDIR then ok_or (option_map asks_readdir (read_in_of body)) EINVAL else
    if opcode == FUSE_RELEASEDIR then ok_or (option_map releasedir (handle_of body)) EINVAL else
    if opcode == FUSE_FSYNC then ok_or (option_map asks_fsync (sync_in_of body)) EINVAL else
    if opcode == FUSE_FSYNCDIR then ok_or (option_map asks_fsyncdir (sync_in_of body)) EINVAL else
    if opcode == FUSE_FORGET then ok_or (forget_of body) EINVAL else
    if opcode == FUSE_BATCH_FORGET then ok_or (batch_forget_of body) EINVAL else
    if opcode == FUSE_INTERRUPT then ok_or (sized INTERRUPT_IN_SIZE interrupt body) EINVAL else
    if opcode == FUSE_DESTROY then ok_or (sized 0 destroy body) EINVAL else
    Err ENOSYS

-- what a frame asks
unfoldable pub request_of : List ℕ → Result Request ℕ
request_of frame = request_in (head_of frame).opcode (drop IN_HEADER_SIZE frame)
