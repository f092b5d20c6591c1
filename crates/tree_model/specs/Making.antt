-- New trees and new records.
use Rattle.std.specs.Prelude.{ℕ, ◌+◌, ◌-◌, ◌^◌, Bool, not, ◌||◌, List, [], ◌∷◌, ◌++◌, length}
use Rattle.std.specs.Prelude.{Option, Some, None, Result, Ok, Err, if◌then◌else◌, nat_le, nat_lt}
use Rattle.std.specs.Prelude.{is_some}
use Rattle.std.specs.FinMap as map
use Rattle.port_base.specs.declared.errno.TheConstants.{ENOENT, EEXIST, ENOTDIR, EFBIG, ENOSPC}
use Rattle.tree_model.specs.declared.attributes.Stamp.{Stamp}
use Rattle.tree_model.specs.declared.attributes.Limits.{Limits}
use Rattle.tree_model.specs.Tree.{Tree, Record, Records, Body, DirEntry, TOP, body_at, listed}
use Rattle.tree_model.specs.Tree.{is_directory, is_linked}
use Rattle.tree_model.specs.Tree.Body.{File, Directory, Link}
use Rattle.tree_model.specs.Finding.{entry_named}

-- the top directory as it is made, without entries
abbrev pub top_record : Stamp → ℕ → ℕ → ℕ → Record
top_record born mode uid gid = record {
  body = Directory [] 1 TOP;
  mode = mode;
  uid = uid;
  gid = gid;
  links = 2;
  atime = born;
  mtime = born;
  ctime = born;
}

-- a tree of the top directory alone
abbrev pub new_tree : Limits → Stamp → Stamp → ℕ → ℕ → ℕ → Tree
new_tree limits moment born mode uid gid = record {
  records = map.insert map.empty TOP (top_record born mode uid gid);
  next = 2;
  limits = limits;
  moment = moment;
}

-- the refusal, or an answer and the tree that it leaves
abbrev pub unless_refused : {A : Type 0} → Option ℕ → A → Tree → Result (A × Tree) ℕ
unless_refused (Some e) answer t = Err e
unless_refused None answer t = Ok (answer, t)

-- ---- changes of one record

abbrev pub changed : (Record → Record) → Option Record → Records → ℕ → Records
changed f None rs i = rs
changed f (Some r) rs i = map.insert rs i (f r)

-- the records with the one at i changed
abbrev pub change : (Record → Record) → Records → ℕ → Records
change f rs i = changed f (map.get rs i) rs i

abbrev pub with_entries : Body → List DirEntry → ℕ → Body
with_entries (File bytes) es next = File bytes
with_entries (Directory old cookie above) es next = Directory es next above
with_entries (Link target) es next = Link target

abbrev pub next_cookie : Body → ℕ
next_cookie (File bytes) = 0
next_cookie (Directory es next above) = next
next_cookie (Link target) = 0

-- a directory with one more entry, which gets the next cookie
abbrev pub joined_by : List ℕ → ℕ → Record → Record
joined_by name ino r = record r {
  body = with_entries r.body
      (listed r.body ++ (record { cookie = next_cookie r.body; name = name; ino = ino } ∷ []))
      (next_cookie r.body + 1);
}

-- ---- adding a file

-- a directory takes no more entries: it is full, or no number or cookie is left
abbrev pub is_full : ℕ → ℕ → Body → Bool
is_full limit number b =
    nat_le limit (length (listed b)) || nat_le (2 ^ 64 - 1) number
    || nat_le (2 ^ 64 - 1) (next_cookie b)

-- the first refusal of a new name in a directory
abbrev pub new_name_refused : Bool → ℕ → ℕ → List ℕ → Option Body → Option ℕ
new_name_refused linked limit number name None = Some ENOTDIR
new_name_refused linked limit number name (Some b) =
    if not (is_directory b) then Some ENOTDIR else
    if not linked then Some ENOENT else
    if is_some (entry_named name (listed b)) then Some EEXIST else
    if is_full limit number b then Some ENOSPC else None

-- a file as it is added, before its directory counts
pub record NewFile : Type 0 where
  pub mode : ℕ
  pub uid : ℕ
  pub gid : ℕ
  pub bytes : List ℕ

abbrev pub file_record : Stamp → NewFile → Record
file_record born f = record {
  body = File f.bytes;
  mode = f.mode;
  uid = f.uid;
  gid = f.gid;
  links = 1;
  atime = born;
  mtime = born;
  ctime = born;
}

abbrev pub add_refused : Option ℕ → ℕ → NewFile → Option ℕ
add_refused (Some e) limit f = Some e
add_refused None limit f = if nat_lt limit (length f.bytes) then Some EFBIG else None

-- the tree with a file more, named by a new entry; the directory's times stay
abbrev pub with_file : Stamp → Tree → ℕ → List ℕ → NewFile → Tree
with_file born t dir name f = record t {
  records = change (joined_by name t.next) (map.insert t.records t.next (file_record born f)) dir;
  next = t.next + 1;
}

-- the first refusal of a new name in a directory of a tree
abbrev pub create_refused : Tree → ℕ → List ℕ → Option ℕ
create_refused t dir name =
    new_name_refused (is_linked t.records dir) t.limits.entries t.next name (body_at t.records dir)

-- `add` of a file: the first refusal, or the new number and the tree
abbrev pub add_file_of : Stamp → Tree → ℕ → List ℕ → NewFile → Result (ℕ × Tree) ℕ
add_file_of born t dir name f =
    unless_refused (add_refused (create_refused t dir name) t.limits.file f)
    t.next (with_file born t dir name f)
