-- A directory as READDIR lists it.
use Rattle.std.specs.Prelude.{ℕ, List, length, min}
use Rattle.std.specs.List.{flat_map}
use Rattle.tree_model.specs.Tree.{Tree}
use Rattle.tree_model.specs.Reading.{Entry}
use Rattle.tree_model.specs.Pages.{page_of}
use Rattle.tree_model.specs.declared.attributes.Kind.{Kind}
use Rattle.tree_model.specs.declared.attributes.Kind.TheVariants as kind
use Rattle.fuse_wire.specs.Listing.{padded_size, dirent_bytes}
use Rattle.fuse_wire.specs.declared.attr.FileType.{FileType}
use Rattle.fuse_wire.specs.declared.attr.FileType.TheVariants as type
use Rattle.fuse_wire.specs.declared.protocol.TheConstants.{MAX_READ}

abbrev pub file_type : Kind → FileType
file_type kind.File = type.RegularFile
file_type kind.Directory = type.Directory
file_type kind.Link = type.Symlink

-- how many bytes an entry has in a reply
abbrev pub entry_size : Entry → ℕ
entry_size e = padded_size (length e.name)

abbrev pub entry_bytes : Entry → List ℕ
entry_bytes e = dirent_bytes e.attr.ino e.cookie (file_type e.attr.kind) e.name

abbrev pub listing_bytes : List Entry → List ℕ
listing_bytes es = flat_map entry_bytes es

-- the entries of a directory above a cookie that have room
abbrev pub listed_page : Tree → ℕ → ℕ → ℕ → List Entry
listed_page t dir offset size = page_of entry_size (min size MAX_READ) t dir offset
