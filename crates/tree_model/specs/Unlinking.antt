-- Entries that go.
use Rattle.std.specs.Prelude.{ℕ, ◌-◌, Bool, true, not, List, [], ◌∷◌, length, Option, None, Some}
use Rattle.std.specs.Prelude.{Result, Ok, Err, if◌then◌else◌, ◌==◌, bytes_eq}
use Rattle.port_base.specs.declared.errno.TheConstants.{ENOTDIR, EISDIR, ENOTEMPTY}
use Rattle.tree_model.specs.declared.attributes.Stamp.{Stamp}
use Rattle.tree_model.specs.Tree.{Tree, Record, Records, Body, DirEntry, body_at, listed}
use Rattle.tree_model.specs.Tree.{is_directory, is_directory_at, keep}
use Rattle.tree_model.specs.Making.{change, with_entries, next_cookie}
use Rattle.tree_model.specs.Finding.{lookup_of}

-- the entries without the one of a name; those that stay keep their cookies
abbrev pub without : List ℕ → List DirEntry → List DirEntry
without name [] = []
without name (e ∷ es) = if bytes_eq e.name name then es else e ∷ without name es

-- a directory without the entry of a name
abbrev pub parted_by : List ℕ → Stamp → Record → Record
parted_by name moment r = record r {
  body = with_entries r.body (without name (listed r.body))
      (next_cookie r.body);
  mtime = moment;
  ctime = moment;
}

-- the links that are left: a directory that loses its one name has none
abbrev pub links_left : Body → ℕ → ℕ
links_left b links = if is_directory b then 0 else links - 1

abbrev pub one_name_less : Stamp → Record → Record
one_name_less moment r = record r { links = links_left r.body r.links; ctime = moment }

-- the tree without an entry, whose record has a name less
abbrev pub without_entry : Tree → ℕ → List ℕ → ℕ → Tree
without_entry t dir name ino = record t {
  records = change (parted_by name t.moment)
      (change (one_name_less t.moment) t.records ino) dir;
}

-- without an entry that was found, and without what no entry and no hold names then; or the
-- refusal
abbrev pub removed_at : (ℕ → Bool) → Tree → ℕ → List ℕ → Result ℕ ℕ → Result (Unit {0} × Tree) ℕ
removed_at held t dir name (Err e) = Err e
removed_at held t dir name (Ok ino) = Ok (tt, keep held (without_entry t dir name ino))

-- what is found has to be no directory
abbrev pub unless_directory : Records → Result ℕ ℕ → Result ℕ ℕ
unless_directory rs (Err e) = Err e
unless_directory rs (Ok ino) = if is_directory_at (body_at rs ino) then Err EISDIR else Ok ino

-- `unlink`: ENOTDIR for what is no directory, ENOENT where no entry has the name, EISDIR where it
-- names a directory; what no entry and no hold names is gone
abbrev pub unlink_of : (ℕ → Bool) → Tree → ℕ → List ℕ → Result (Unit {0} × Tree) ℕ
unlink_of held t dir name = removed_at held t dir name
    (unless_directory t.records (lookup_of t dir name))

-- whether it lists nothing
abbrev pub is_empty_at : Option Body → Bool
is_empty_at None = true
is_empty_at (Some b) = length (listed b) == 0

-- what is found has to be a directory without entries
abbrev pub if_empty : Records → Result ℕ ℕ → Result ℕ ℕ
if_empty rs (Err e) = Err e
if_empty rs (Ok ino) =
    if not (is_directory_at (body_at rs ino)) then Err ENOTDIR else
    if is_empty_at (body_at rs ino) then Ok ino else Err ENOTEMPTY

-- `rmdir`: ENOTDIR for what is no directory, ENOENT where no entry has the name, ENOTDIR where it
-- names no directory, ENOTEMPTY where that has entries
abbrev pub rmdir_of : (ℕ → Bool) → Tree → ℕ → List ℕ → Result (Unit {0} × Tree) ℕ
rmdir_of held t dir name = removed_at held t dir name (if_empty t.records (lookup_of t dir name))
