-- The head of a request.
use Rattle.std.specs.Prelude.{ℕ, List}
use Rattle.fuse_wire.specs.Fields.{u32_at, u64_at}
use Rattle.fuse_wire.specs.declared.head.Head.{Head}

-- the first 40 bytes of a frame: `fuse_in_header` of fuse.h, its last 4 bytes ignored
abbrev pub head_of : List ℕ → Head
head_of frame = record {
  len = u32_at frame 0;
  opcode = u32_at frame 4;
  unique = u64_at frame 8;
  nodeid = u64_at frame 16;
  uid = u32_at frame 24;
  gid = u32_at frame 28;
  pid = u32_at frame 32;
}
