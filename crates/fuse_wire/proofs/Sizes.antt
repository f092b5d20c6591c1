-- How long the bodies of replies are.
use Rattle.std.proofs.Common.{◌≡◌, ℕ, List, length, refl, arith, length-append}
use Rattle.std.specs.Prelude.{replicate}
use Rattle.std.proofs.lemmas.List.{length-replicate}
use Rattle.fuse_wire.specs.declared.attr.FileAttr.{FileAttr}
use Rattle.fuse_wire.specs.Reply.{u32s, u64s, attr_bytes, entry_body, attr_body, init_body}
use Rattle.fuse_wire.specs.Reply.{opened_body, statfs_body, written_body, created_body}
use Rattle.fuse_wire.specs.declared.attr.FileType.{FileType}
use Rattle.fuse_wire.specs.Listing.{padded_size, padding, dirent_bytes}

pub length-attr_bytes : (attr : FileAttr) → length (attr_bytes attr) ≡ 88
unfolding attr_bytes u32s u64s
length-attr_bytes attr = refl

pub length-entry_body : (node : ℕ) (attr : FileAttr) → length (entry_body node attr) ≡ 128
unfolding entry_body attr_bytes u32s u64s
length-entry_body node attr = refl

pub length-attr_body : (attr : FileAttr) → length (attr_body attr) ≡ 104
unfolding attr_body attr_bytes u32s u64s
length-attr_body attr = refl

pub length-init_body : (minor max_readahead : ℕ) → length (init_body minor max_readahead) ≡ 64
unfolding init_body u32s
length-init_body minor max_readahead = refl

pub length-written_body : (size : ℕ) → length (written_body size) ≡ 8
unfolding written_body u32s
length-written_body size = refl

pub length-opened_body : (handle : ℕ) → length (opened_body handle) ≡ 16
unfolding opened_body u32s u64s
length-opened_body handle = refl

pub length-created_body : (node : ℕ) (attr : FileAttr) (handle : ℕ)
    → length (created_body node attr handle) ≡ 144
unfolding created_body entry_body opened_body attr_bytes u32s u64s
length-created_body node attr handle = refl

pub length-statfs_body : (block_size blocks files : ℕ)
    → length (statfs_body block_size blocks files) ≡ 80
unfolding statfs_body u32s u64s
length-statfs_body block_size blocks files = refl

-- an entry of a listing is as long as it is counted
pub length-dirent_bytes : (ino offset : ℕ) (kind : FileType) (name : List ℕ)
    → length (dirent_bytes ino offset kind name) ≡ padded_size (length name)
unfolding dirent_bytes u32s u64s
length-dirent_bytes ino offset kind name =
    let named = length-append name (replicate (padding (length name)) 0) in
    let filled = length-replicate {A = ℕ} (padding (length name)) 0 in
    omega (arith, named, filled)
