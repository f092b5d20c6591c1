-- What an open by the flags of open(2) leaves of a tree, files that are made by one, and where a
-- write to an open file goes.
use Rattle.std.specs.Prelude.{ℕ, ◌==◌, not, Bool, List, Option, Some, None, Result, Ok, Err}
use Rattle.std.specs.Prelude.{if◌then◌else◌}
use Rattle.port_base.specs.declared.errno.TheConstants.{EINVAL, ENOTDIR}
use Rattle.port_base.specs.declared.oflag.TheConstants.{O_ACCMODE, O_TRUNC}
use Rattle.port_base.specs.OpenFlags.{access, has_flag}
use Rattle.port_base.specs.Names.{name_fault}
use Rattle.tree_model.specs.Tree.{Tree, body_at, is_directory_at}
use Rattle.tree_model.specs.Attributes.{stat_of}
use Rattle.tree_model.specs.Attributing.{set_len_of}
use Rattle.tree_model.specs.Creating.{create_of}
use Rattle.tree_model.specs.Opening.{open_check_of}
use Rattle.tree_model.specs.Renaming.{first_of}
use Rattle.tree_model.specs.declared.attributes.Attr.{Attr}

-- ---- files that are opened

-- with O_TRUNC the file is emptied
abbrev pub emptied : Tree → ℕ → ℕ → Result (Unit {0} × Tree) ℕ
emptied t ino flags = if has_flag O_TRUNC flags then set_len_of t ino 0 else Ok (tt, t)

abbrev pub emptied_where : Result (Unit {0}) ℕ → Tree → ℕ → ℕ → Result (Unit {0} × Tree) ℕ
emptied_where (Ok u) t ino flags = emptied t ino flags
emptied_where (Err e) t ino flags = Err e

-- the tree that an open leaves, where it may be
abbrev pub open_of : Tree → ℕ → ℕ → Result (Unit {0} × Tree) ℕ
open_of t ino flags = emptied_where (open_check_of t ino flags) t ino flags

-- ---- files that are made

abbrev pub unless_some : {A : Type 0} → Option ℕ → Result A ℕ → Result A ℕ
unless_some (Some e) told = Err e
unless_some None told = told

-- why no file is made by an open: ENOTDIR in what is no directory, then the fault of its name,
-- then EINVAL for access 3
abbrev pub new_file_refused : Bool → List ℕ → ℕ → Option ℕ
new_file_refused in_directory name flags =
    if not in_directory then Some ENOTDIR else
    first_of (name_fault name) (if access flags == O_ACCMODE then Some EINVAL else None)

-- the new file
abbrev pub new_file_of : Tree → ℕ → List ℕ → ℕ → ℕ → Result (ℕ × Tree) ℕ
new_file_of t dir name flags mode =
    unless_some (new_file_refused (is_directory_at (body_at t.records dir)) name flags)
    (create_of t dir name mode)

-- ---- files that are written

-- the bytes of what is stored at an inode, none where nothing is
abbrev pub size_told : Result Attr ℕ → ℕ
size_told (Ok a) = a.size
size_told (Err e) = 0

abbrev pub size_at : Tree → ℕ → ℕ
size_at t ino = size_told (stat_of t ino)
