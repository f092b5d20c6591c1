-- Entries of a listing, as READDIR's reply has them one after another (`fuse_dirent` of fuse.h).
use Rattle.std.specs.Prelude.{ℕ, ◌+◌, ◌-◌, ◌*◌, ◌/◌, List, [], ◌∷◌, ◌++◌, length, replicate}
use Rattle.fuse_wire.specs.declared.attr.FileType.{FileType}
use Rattle.fuse_wire.specs.declared.attr.FileType.TheVariants.{Directory, RegularFile, Symlink}
use Rattle.fuse_wire.specs.declared.listing.TheConstants.{DIRENT_HEADER_SIZE, DIRENT_ALIGNMENT}
use Rattle.fuse_wire.specs.Reply.{u32s, u64s}

-- as `d_type` of readdir(3) tells it
abbrev pub type_number : FileType → ℕ
type_number Directory = 4
type_number RegularFile = 8
type_number Symlink = 10

-- how many bytes an entry has whose name has so many: zero bytes fill it up
abbrev pub padded_size : ℕ → ℕ
padded_size named = (DIRENT_HEADER_SIZE + named + (DIRENT_ALIGNMENT - 1)) / DIRENT_ALIGNMENT
    * DIRENT_ALIGNMENT

abbrev pub padding : ℕ → ℕ
padding named = padded_size named - (DIRENT_HEADER_SIZE + named)

-- inode number and cookie, 8 bytes each; the name's length and the type, 4 bytes each; the name,
-- and zero bytes up to a multiple of 8
unfoldable pub dirent_bytes : (ino offset : ℕ) → FileType → List ℕ → List ℕ
dirent_bytes ino offset kind name =
    u64s (ino ∷ offset ∷ [])
    ++ (u32s (length name ∷ type_number kind ∷ [])
    ++ (name ++ replicate (padding (length name)) 0))
