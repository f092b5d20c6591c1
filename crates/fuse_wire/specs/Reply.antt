-- Replies, by the layouts of fuse.h (protocol 7).
use Rattle.std.specs.Prelude.{ℕ, ◌+◌, ◌-◌, ◌^◌, ◌==◌, if◌then◌else◌, List, [], ◌∷◌, ◌++◌, length}
use Rattle.std.specs.Prelude.{replicate}
use Rattle.std.specs.Int.{w16, w32, w64, to_le_bytes}
use Rattle.std.specs.List.{flat_map}
use Rattle.port_base.specs.declared.names.TheConstants.{NAME_LIMIT}
use Rattle.fuse_wire.specs.declared.attr.FileAttr.{FileAttr}
use Rattle.fuse_wire.specs.declared.protocol.TheConstants.{FUSE_KERNEL_VERSION}
use Rattle.fuse_wire.specs.declared.reply.TheConstants.{OUT_HEADER_SIZE, MAX_BACKGROUND}
use Rattle.fuse_wire.specs.declared.reply.TheConstants.{CONGESTION_THRESHOLD, MAX_WRITE, TIME_GRAN}
use Rattle.fuse_wire.specs.declared.reply.TheConstants.{VALID_SECS}

-- numbers of 4 bytes each, and of 8
unfoldable pub u32s : List ℕ → List ℕ
u32s numbers = flat_map (to_le_bytes w32) numbers

unfoldable pub u64s : List ℕ → List ℕ
u64s numbers = flat_map (to_le_bytes w64) numbers

-- 0, or the negated errno in 32 bits
abbrev pub negated : ℕ → ℕ
negated errno = if errno == 0 then 0 else 2 ^ 32 - errno

-- the length, the error and the request's number: `fuse_out_header`
unfoldable pub reply_head : ℕ → ℕ → ℕ → List ℕ
reply_head unique errno size = u32s ((OUT_HEADER_SIZE + size) ∷ negated errno ∷ [])
    ++ u64s (unique ∷ [])

unfoldable pub reply : ℕ → ℕ → List ℕ → List ℕ
reply unique errno body = reply_head unique errno (length body) ++ body

-- `fuse_attr`, 88 bytes
unfoldable pub attr_bytes : FileAttr → List ℕ
attr_bytes a =
    u64s (a.ino ∷ a.size ∷ a.blocks ∷ a.atime ∷ a.mtime ∷ a.ctime ∷ [])
    ++ u32s (a.atimensec ∷ a.mtimensec ∷ a.ctimensec ∷ a.mode ∷ a.nlink ∷ a.uid ∷ a.gid ∷ a.rdev
    ∷ a.blksize ∷ a.flags ∷ [])

-- `fuse_entry_out`: the node, generation 0, how long entry and attributes are valid, in seconds
-- and nanoseconds, and the attributes
unfoldable pub entry_body : ℕ → FileAttr → List ℕ
entry_body node attr = u64s (node ∷ 0 ∷ VALID_SECS ∷ VALID_SECS ∷ [])
    ++ (u32s (0 ∷ 0 ∷ []) ++ attr_bytes attr)

-- `fuse_attr_out`: how long they are valid, 4 bytes, and the attributes
unfoldable pub attr_body : FileAttr → List ℕ
attr_body attr = u64s (VALID_SECS ∷ []) ++ (u32s (0 ∷ 0 ∷ []) ++ attr_bytes attr)

-- `fuse_init_out`: the version, the readahead, no flags, the limits of the session, and zeros
unfoldable pub init_body : ℕ → ℕ → List ℕ
init_body minor max_readahead =
    u32s (FUSE_KERNEL_VERSION ∷ minor ∷ max_readahead ∷ 0 ∷ [])
    ++ (to_le_bytes w16 MAX_BACKGROUND ++ (to_le_bytes w16 CONGESTION_THRESHOLD
    ++ (u32s (MAX_WRITE ∷ TIME_GRAN ∷ []) ++ replicate 36 0)))

-- `fuse_open_out`: the handle, no flags, and 4 bytes
unfoldable pub opened_body : ℕ → List ℕ
opened_body handle = u64s (handle ∷ []) ++ u32s (0 ∷ 0 ∷ [])

-- `fuse_write_out`: how many bytes were written
unfoldable pub written_body : ℕ → List ℕ
written_body size = u32s (size ∷ 0 ∷ [])

-- an entry and its handle: `fuse_entry_out` and `fuse_open_out`
unfoldable pub created_body : ℕ → FileAttr → ℕ → List ℕ
created_body node attr handle = entry_body node attr ++ opened_body handle

-- `fuse_statfs_out`: the blocks, those that are free and those that may be taken; the files, and
-- those that are free; the size of a block, the longest name, the size of a block again, and zeros
unfoldable pub statfs_body : ℕ → ℕ → ℕ → List ℕ
statfs_body block_size blocks files =
    u64s (blocks ∷ blocks ∷ blocks ∷ files ∷ files ∷ [])
    ++ (u32s (block_size ∷ NAME_LIMIT ∷ block_size ∷ 0 ∷ []) ++ replicate 24 0)
