-- Replies of the gate, and the attributes in them.
use Rattle.std.specs.Prelude.{ℕ, ◌<◌, ◌≤◌, ◌^◌, length, Result, Ok, Err}
use Rattle.tree_model.specs.declared.attributes.Attr.{Attr}
use Rattle.tree_model.specs.declared.attributes.TheConstants.{BLOCK_SIZE}
use Rattle.fuse_wire.specs.declared.attr.FileAttr.{FileAttr}
use Rattle.fuse_wire.specs.declared.protocol.TheConstants.{MAX_READ}
use Rattle.p9_rmsg.specs.Replies.{Attributes as Told}
use Rattle.fid_model.specs.Fids.{ServerState}
use Rattle.fid_model.specs.Calls.{getattr_told}
use Rattle.tree_machine.specs.Replies.{Reply, fuse_attributes}
use Rattle.tree_machine.specs.Replies.Reply.{Refused, Granted, Entry, Attributes, Opened, Bytes}
use Rattle.tree_machine.specs.Replies.Reply.{Sizes, Done, Created, Written}
use Rattle.fuse_gate.specs.declared.gate.reply.Reply.{Reply as GateReply}
use Rattle.fuse_gate.specs.declared.gate.reply.Reply.TheVariants as gate

-- a reply without where its bytes lie
abbrev pub reply_of : GateReply → Reply
reply_of (gate.Refused errno) = Refused errno
reply_of (gate.Granted minor max_readahead) = Granted minor max_readahead
reply_of (gate.Entry node attr) = Entry node attr
reply_of (gate.Attributes attr) = Attributes attr
reply_of (gate.Opened handle) = Opened handle
reply_of (gate.Created node attr handle) = Created node attr handle
reply_of (gate.Bytes bytes) = Bytes bytes.items
reply_of (gate.Written count) = Written count
reply_of (gate.Sizes blocks files) = Sizes blocks files
reply_of gate.Done = Done

-- it has no more bytes of a file than one request reads
abbrev pub IsShort : Reply → Type 0
IsShort (Bytes bytes) = length bytes ≤ MAX_READ
IsShort _ = Unit {0}

-- what a server tells of an inode, in the names of fuse.h
abbrev pub file_attributes : Told → FileAttr
file_attributes a = record {
  ino = a.qid.1.1;
  size = a.size;
  blocks = a.blocks;
  atime = a.atime_sec;
  mtime = a.mtime_sec;
  ctime = a.ctime_sec;
  atimensec = a.atime_nsec;
  mtimensec = a.mtime_nsec;
  ctimensec = a.ctime_nsec;
  mode = a.mode;
  nlink = a.nlink;
  uid = a.uid;
  gid = a.gid;
  rdev = 0;
  blksize = BLOCK_SIZE;
  flags = 0;
}

-- the fields that have 8 bytes there and 4 here have room
pub record HasShortFields (a : Told) : Type 0 where
  pub links : a.nlink < 2 ^ 32
  pub atime : a.atime_nsec < 2 ^ 32
  pub mtime : a.mtime_nsec < 2 ^ 32
  pub ctime : a.ctime_nsec < 2 ^ 32

-- what is shown of an inode, in the names of fuse.h
abbrev pub fuse_shown : Result Attr ℕ → Result FileAttr ℕ
fuse_shown (Ok a) = Ok (fuse_attributes a)
fuse_shown (Err e) = Err e

-- the attributes of an inode, in the names of fuse.h
abbrev pub attributes_shown : ServerState → ℕ → Result FileAttr ℕ × ServerState
attributes_shown s ino = (fuse_shown (getattr_told s ino).0, s)

-- the reply that tells attributes, or the refusal
abbrev pub attributes_reply : Result FileAttr ℕ → Reply
attributes_reply (Ok a) = Attributes a
attributes_reply (Err e) = Refused e
