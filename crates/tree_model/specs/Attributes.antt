-- What is told of an inode, by a host and by both protocols.
use Rattle.std.specs.Prelude.{ℕ, ◌+◌, ◌-◌, ◌/◌, ◌%◌, ◌^◌, List, ◌++◌, codes, length, Option, Some}
use Rattle.std.specs.Prelude.{None, Result, Ok, Err}
use Rattle.std.specs.Fmt.{decimal}
use Rattle.std.specs.FinMap as map
use Rattle.port_base.specs.declared.errno.TheConstants.{ENOENT}
use Rattle.tree_model.specs.declared.attributes.TheConstants.{BLOCK_SIZE, QTDIR, QTFILE, QTSYMLINK}
use Rattle.tree_model.specs.declared.attributes.TheConstants.{DT_DIR, DT_LNK, DT_REG}
use Rattle.tree_model.specs.declared.attributes.Kind.{Kind}
use Rattle.tree_model.specs.declared.attributes.Kind.TheVariants as kind
use Rattle.tree_model.specs.declared.attributes.Attr.{Attr}
use Rattle.tree_model.specs.declared.attributes.HostError.{HostError}
use Rattle.tree_model.specs.declared.attributes.HostError.TheVariants.{Errno, Fault, NoMemory}
use Rattle.tree_model.specs.declared.attributes.Statfs.{Statfs}
use Rattle.tree_model.specs.Tree.{Tree, Record, Body}
use Rattle.tree_model.specs.Tree.Body.{File, Directory, Link}

abbrev pub kind_of : Body → Kind
kind_of (File bytes) = kind.File
kind_of (Directory es next above) = kind.Directory
kind_of (Link target) = kind.Link

abbrev pub size_of : Body → ℕ
size_of (File bytes) = length bytes
size_of (Directory es next above) = 0
size_of (Link target) = length target

-- what a host tells of a record
abbrev pub attr_of : ℕ → Record → Attr
attr_of i r = record {
  ino = i;
  kind = kind_of r.body;
  mode = r.mode;
  uid = r.uid;
  gid = r.gid;
  links = r.links;
  size = size_of r.body;
  atime = r.atime;
  mtime = r.mtime;
  ctime = r.ctime;
}

abbrev pub attr_or_missing : ℕ → Option Record → Result Attr ℕ
attr_or_missing i None = Err ENOENT
attr_or_missing i (Some r) = Ok (attr_of i r)

-- `stat`: an inode that is held is stored, so a missing one is never asked for
abbrev pub stat_of : Tree → ℕ → Result Attr ℕ
stat_of t i = attr_or_missing i (map.get t.records i)

-- `statfs`: the blocks that a file may have, rounded up, and the entries that a directory may have
abbrev pub statfs_of : Tree → Statfs
statfs_of t = record {
  blocks = (t.limits.file + (BLOCK_SIZE - 1)) / BLOCK_SIZE;
  files = t.limits.entries;
}

-- an error in words
abbrev pub host_error_text : HostError → List ℕ
host_error_text (Errno e) = codes "refused with error number " ++ decimal e
host_error_text Fault = codes "the host failed"
host_error_text NoMemory = codes "out of memory"

-- ---- as 9P2000.L and FUSE tell it

-- the type byte of a qid
abbrev pub qid_type : Kind → ℕ
qid_type kind.File = QTFILE
qid_type kind.Directory = QTDIR
qid_type kind.Link = QTSYMLINK

-- the type bits of a mode
abbrev pub type_bits : Kind → ℕ
type_bits kind.File = 32768
type_bits kind.Directory = 16384
type_bits kind.Link = 40960

-- the type of an entry of a listing: the type bits of a mode, moved down by twelve
abbrev pub entry_type : Kind → ℕ
entry_type kind.File = DT_REG
entry_type kind.Directory = DT_DIR
entry_type kind.Link = DT_LNK

-- a qid: type, version and path
abbrev pub Qid : Type 0
Qid = ℕ × (ℕ × ℕ)

-- the version is the mtime's seconds modulo 2^32, the path the inode number
abbrev pub qid_of : Attr → Qid
qid_of a = (qid_type a.kind, (a.mtime.sec % 2 ^ 32, a.ino))

-- blocks of 512 bytes, rounded up
abbrev pub blocks_of : ℕ → ℕ
blocks_of size = (size + 511) / 512
