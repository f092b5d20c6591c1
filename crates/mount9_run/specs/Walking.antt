-- What the steps of a walk over a tree write.
use Rattle.std.specs.Prelude.{◌≡◌, ℕ, List, [], ◌++◌, Ok, option_map, unwrap_or, if◌then◌else◌}
use Rattle.std.specs.FinMap as map
use Rattle.tree_model.specs.declared.attributes.Attr.{Attr}
use Rattle.tree_model.specs.Tree.{Tree, DirEntry, is_linked}
use Rattle.tree_model.specs.Finding.{entries_at}
use Rattle.tree_model.specs.Attributes.{stat_of}
use Rattle.tree_model.specs.Reading.{above_of, next_cookie_of}
use Rattle.mount9_run.specs.ReportLines.{directory_line}
use Rattle.mount9_run.specs.Report.{entries_text, record_text}

-- the entries of a directory, none of what is no directory
abbrev pub entries_in : Tree → ℕ → List DirEntry
entries_in t dir = unwrap_or (entries_at t.records dir) []

-- a directory's line, and those of its entries
abbrev pub directory_text : Tree → Attr → List ℕ
directory_text t a = directory_line a (above_of t a.ino) (next_cookie_of t a.ino)
    ++ entries_text a.ino (entries_in t a.ino)

-- the lines of the record with this number, none where there is none
abbrev pub stored_text : Tree → ℕ → List ℕ
stored_text t ino = unwrap_or (option_map (record_text ino) (map.get t.records ino)) []

-- the same, none where no entry names it
unfoldable pub linked_text : Tree → ℕ → List ℕ
linked_text t ino = if is_linked t.records ino then stored_text t ino else []

-- these are the attributes of a stored record
pub record IsStored (t : Tree) (a : Attr) : Type 0 where
  pub told : stat_of t a.ino ≡ Ok a
