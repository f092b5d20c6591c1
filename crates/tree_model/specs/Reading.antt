-- What is read of a tree, in order.
use Rattle.std.specs.Prelude.{ℕ, Bool, true, false, List, [], take, drop, find, nat_lt, Option}
use Rattle.std.specs.Prelude.{Some, None, Result, Ok, Err, option_map, option_and_then, unwrap_or}
use Rattle.std.specs.FinMap as map
use Rattle.port_base.specs.Tables.{next_after}
use Rattle.port_base.specs.declared.errno.TheConstants.{ENOTDIR}
use Rattle.tree_model.specs.declared.attributes.Attr.{Attr}
use Rattle.tree_model.specs.Tree.{Tree, Record, Records, Body, DirEntry, body_at}
use Rattle.tree_model.specs.Tree.Body.{File, Directory, Link}
use Rattle.tree_model.specs.Finding.{entries_at}
use Rattle.tree_model.specs.Making.{next_cookie}
use Rattle.tree_model.specs.Attributes.{attr_of}

-- the record with the least number above i
abbrev pub record_after_of : Tree → ℕ → Option Attr
record_after_of t i = option_map (λ (e : ℕ × Record). attr_of e.0 e.1) (next_after i t.records)

-- ---- directories

-- the number of the directory above, 0 where there is none
abbrev pub above : Body → ℕ
above (File bytes) = 0
above (Directory es next up) = up
above (Link target) = 0

abbrev pub above_of : Tree → ℕ → ℕ
above_of t dir = unwrap_or (option_map above (body_at t.records dir)) 0

abbrev pub next_cookie_of : Tree → ℕ → ℕ
next_cookie_of t dir = unwrap_or (option_map next_cookie (body_at t.records dir)) 0

-- the first entry whose cookie is above the given one
abbrev pub entry_above : ℕ → List DirEntry → Option DirEntry
entry_above cookie es = find (λ e. nat_lt cookie e.cookie) es

abbrev pub peek_entry_of : Tree → ℕ → ℕ → Option DirEntry
peek_entry_of t dir cookie = option_and_then (entry_above cookie) (entries_at t.records dir)

-- an entry with what is told of the inode that it names
pub record Entry : Type 0 where
  pub cookie : ℕ
  pub name : List ℕ
  pub attr : Attr

-- in a good tree what an entry names is stored
abbrev pub shown_entry : Records → DirEntry → Option Entry
shown_entry rs e =
    option_map (λ (r : Record). record { cookie = e.cookie; name = e.name; attr = attr_of e.ino r })
    (map.get rs e.ino)

abbrev pub entry_after_among : Records → ℕ → Option (List DirEntry) → Result (Option Entry) ℕ
entry_after_among rs cookie None = Err ENOTDIR
entry_after_among rs cookie (Some es) =
    Ok (option_and_then (shown_entry rs) (entry_above cookie es))

-- `entry_after`: the first entry above a cookie, or ENOTDIR
abbrev pub entry_after_of : Tree → ℕ → ℕ → Result (Option Entry) ℕ
entry_after_of t dir cookie = entry_after_among t.records cookie (entries_at t.records dir)

-- ---- files

abbrev pub is_file_at : Option Body → Bool
is_file_at None = false
is_file_at (Some (File bytes)) = true
is_file_at (Some (Directory es next up)) = false
is_file_at (Some (Link target)) = false

-- the bytes of a file, none of what is no file
abbrev pub bytes_of : Body → List ℕ
bytes_of (File bytes) = bytes
bytes_of (Directory es next up) = []
bytes_of (Link target) = []

abbrev pub bytes_at : Tree → ℕ → List ℕ
bytes_at t ino = unwrap_or (option_map bytes_of (body_at t.records ino)) []

-- the bytes from an offset on, at most so many
abbrev pub part : List ℕ → ℕ → ℕ → List ℕ
part bytes offset size = take size (drop offset bytes)
