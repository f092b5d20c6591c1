-- Records and entries that are added to a tree.
use Rattle.std.specs.Prelude.{◌≡◌, ℕ, ◌+◌, ◌-◌, ◌^◌, Bool, true, not, ◌||◌, List, [], length}
use Rattle.std.specs.Prelude.{Option, Some, None, Result, if◌then◌else◌, ◌==◌, nat_le, is_some}
use Rattle.std.specs.FinMap as map
use Rattle.port_base.specs.declared.errno.TheConstants.{EPERM, ENOENT, EEXIST, ENOTDIR, ENOSPC}
use Rattle.port_base.specs.declared.errno.TheConstants.{EMLINK}
use Rattle.tree_model.specs.declared.attributes.Stamp.{Stamp}
use Rattle.tree_model.specs.declared.attributes.Limits.{Limits}
use Rattle.tree_model.specs.Tree.{Tree, Record, Body, DirEntry, body_at, listed, is_directory}
use Rattle.tree_model.specs.Tree.{is_linked}
use Rattle.tree_model.specs.Tree.Body.{Directory, Link}
use Rattle.tree_model.specs.Good.{IsGoodRecord, links_of}
use Rattle.tree_model.specs.Finding.{entry_named}
use Rattle.tree_model.specs.Making.{change, joined_by, next_cookie, create_refused, unless_refused}

-- ---- a record more

-- a record that can be added below a directory: it is good, lists nothing, shows one name, and
-- stands below it
pub record IsNew (dir : ℕ) (r : Record) : Type 0 where
  pub good : IsGoodRecord r
  pub lists : listed r.body ≡ []
  pub shows : r.links ≡ links_of r.body 1 true
  pub under : (es : List DirEntry) (next up : ℕ) → r.body ≡ Directory es next up → up ≡ dir

-- the tree with a record more, named by a new entry
abbrev pub with_record : Tree → ℕ → List ℕ → Record → Tree
with_record t dir name r = record t {
  records = change (joined_by name t.next) (map.insert t.records t.next r) dir;
  next = t.next + 1;
}

-- the first refusal, or the new number and the tree with a record more
abbrev pub placed : Tree → ℕ → List ℕ → Record → Result (ℕ × Tree) ℕ
placed t dir name r = unless_refused (create_refused t dir name) t.next (with_record t dir name r)

-- a directory without entries
abbrev pub directory_record : Stamp → ℕ → ℕ → ℕ → ℕ → Record
directory_record born mode uid gid above = record {
  body = Directory [] 1 above;
  mode = mode;
  uid = uid;
  gid = gid;
  links = 2;
  atime = born;
  mtime = born;
  ctime = born;
}

-- a symbolic link, which lets everyone do everything
abbrev pub link_record : Stamp → ℕ → ℕ → List ℕ → Record
link_record born uid gid target = record {
  body = Link target;
  mode = 511;
  uid = uid;
  gid = gid;
  links = 1;
  atime = born;
  mtime = born;
  ctime = born;
}

-- `add` of a directory
abbrev pub add_directory_of : Stamp → Tree → ℕ → List ℕ → ℕ → ℕ → ℕ → Result (ℕ × Tree) ℕ
add_directory_of born t dir name mode uid gid =
    placed t dir name (directory_record born mode uid gid dir)

-- `add` of a symbolic link
abbrev pub add_link_of : Stamp → Tree → ℕ → List ℕ → ℕ → ℕ → List ℕ → Result (ℕ × Tree) ℕ
add_link_of born t dir name uid gid target = placed t dir name (link_record born uid gid target)

-- ---- an entry more

-- a directory takes no more entries, whatever they name
abbrev pub takes_no_entry : ℕ → Body → Bool
takes_no_entry limit b = nat_le limit (length (listed b)) || nat_le (2 ^ 64 - 1) (next_cookie b)

-- the first refusal of one more name of a record
abbrev pub link_refused : Bool → Limits → List ℕ → Option Body → Option Record → Option ℕ
link_refused linked limits name None x = Some ENOTDIR
link_refused linked limits name (Some b) None = Some ENOENT
link_refused linked limits name (Some b) (Some r) =
    if not (is_directory b) then Some ENOTDIR else
    if is_directory r.body then Some EPERM else
    if not linked || r.links == 0 then Some ENOENT else
    if is_some (entry_named name (listed b)) then Some EEXIST else
    if nat_le limits.links r.links then Some EMLINK else
    if takes_no_entry limits.entries b then Some ENOSPC else None

abbrev pub one_link_more : Record → Record
one_link_more r = record r { links = r.links + 1 }

-- the tree with one more entry for a record that is there
abbrev pub with_link : Tree → ℕ → List ℕ → ℕ → Tree
with_link t dir name ino = record t {
  records = change (joined_by name ino) (change one_link_more t.records ino) dir;
}

-- the first refusal of one more name of a record of a tree
abbrev pub name_refused : Tree → ℕ → List ℕ → ℕ → Option ℕ
name_refused t dir name ino =
    link_refused (is_linked t.records dir) t.limits name (body_at t.records dir)
    (map.get t.records ino)

-- `add` of one more name
abbrev pub add_hard_of : Tree → ℕ → List ℕ → ℕ → Result (ℕ × Tree) ℕ
add_hard_of t dir name ino =
    unless_refused (name_refused t dir name ino) ino (with_link t dir name ino)
