-- What answers a request, and its bytes.
use Rattle.std.specs.Prelude.{ℕ, List, [], if◌then◌else◌}
use Rattle.tree_model.specs.Attributes.{blocks_of}
use Rattle.tree_model.specs.declared.attributes.TheConstants.{BLOCK_SIZE}
use Rattle.tree_model.specs.declared.attributes.Attr.{Attr}
use Rattle.fuse_wire.specs.Head.{head_of}
use Rattle.fuse_wire.specs.Opcode.{is_silent}
use Rattle.fuse_wire.specs.declared.attr.FileAttr.{FileAttr}
use Rattle.fuse_wire.specs.Reply.{reply, init_body, entry_body, attr_body, opened_body}
use Rattle.fuse_wire.specs.Reply.{statfs_body, created_body, written_body}

-- an error; what INIT grants; a node and its attributes; attributes; a handle; a node, its
-- attributes and its handle; bytes of a file, or a link's target; how many bytes were written; how
-- many blocks and files a tree may have; no more than that it is done
pub data Reply : Type 0 where
  Refused : (errno : ℕ) → Reply
  Granted : (minor max_readahead : ℕ) → Reply
  Entry : (node : ℕ) (attr : FileAttr) → Reply
  Attributes : (attr : FileAttr) → Reply
  Opened : (handle : ℕ) → Reply
  Created : (node : ℕ) (attr : FileAttr) (handle : ℕ) → Reply
  Bytes : (bytes : List ℕ) → Reply
  Written : (count : ℕ) → Reply
  Sizes : (blocks files : ℕ) → Reply
  Done : Reply

-- attributes as fuse.h names them; those of the argument are as they are shown
abbrev pub fuse_attributes : Attr → FileAttr
fuse_attributes a = record {
  ino = a.ino;
  size = a.size;
  blocks = blocks_of a.size;
  atime = a.atime.sec;
  mtime = a.mtime.sec;
  ctime = a.ctime.sec;
  atimensec = a.atime.nsec;
  mtimensec = a.mtime.nsec;
  ctimensec = a.ctime.nsec;
  mode = a.mode;
  nlink = a.links;
  uid = a.uid;
  gid = a.gid;
  rdev = 0;
  blksize = BLOCK_SIZE;
  flags = 0;
}

-- the reply to the request with this number
abbrev pub reply_bytes : ℕ → Reply → List ℕ
reply_bytes unique (Refused errno) = reply unique errno []
reply_bytes unique (Granted minor max_readahead) = reply unique 0 (init_body minor max_readahead)
reply_bytes unique (Entry node attr) = reply unique 0 (entry_body node attr)
reply_bytes unique (Attributes attr) = reply unique 0 (attr_body attr)
reply_bytes unique (Opened handle) = reply unique 0 (opened_body handle)
reply_bytes unique (Created node attr handle) =
    reply unique 0 (created_body node attr handle)
reply_bytes unique (Bytes bytes) = reply unique 0 bytes
reply_bytes unique (Written count) = reply unique 0 (written_body count)
reply_bytes unique (Sizes blocks files) =
    reply unique 0 (statfs_body BLOCK_SIZE blocks files)
reply_bytes unique Done = reply unique 0 []

-- the bytes that answer a frame: none where its request never gets a reply
abbrev pub answer_bytes : List ℕ → Reply → List ℕ
answer_bytes frame r =
    if is_silent (head_of frame).opcode then [] else reply_bytes (head_of frame).unique r
