-- The text of a report.
use Rattle.std.specs.Prelude.{ℕ, List, ◌++◌, codes}
use Rattle.std.specs.List.{flat_map}
use Rattle.std.specs.FinMap as map
use Rattle.tree_model.specs.declared.attributes.Attr.{Attr}
use Rattle.tree_model.specs.Tree.{Tree, Record, Body, DirEntry}
use Rattle.tree_model.specs.Tree.Body.{File, Directory, Link}
use Rattle.tree_model.specs.Attributes.{attr_of}
use Rattle.mount9_run.specs.declared.report.verdict.Verdict.{Verdict}
use Rattle.mount9_run.specs.Verdicts.{nine_frames_of}
use Rattle.mount9_run.specs.ReportLines.{directory_line, entry_line, file_line, link_line}
use Rattle.mount9_run.specs.ReportLines.{number_line, hex_lines, verdict_line}

-- a directory's entries in the order of their cookies
unfoldable pub entries_text : ℕ → List DirEntry → List ℕ
entries_text dir entries = flat_map (λ e. entry_line dir e.cookie e.ino e.name) entries

abbrev pub body_text : Attr → Body → List ℕ
body_text a (File bytes) = file_line a bytes
body_text a (Directory entries next above) =
    directory_line a above next ++ entries_text a.ino entries
body_text a (Link target) = link_line a target

unfoldable pub record_text : ℕ → Record → List ℕ
record_text ino r = body_text (attr_of ino r) r.body

-- the records by rising number
unfoldable pub records_text : List (ℕ × Record) → List ℕ
records_text records = flat_map (λ p. record_text p.0 p.1) records

-- the next number and the records
unfoldable pub tree_text : Tree → List ℕ
tree_text t = number_line (codes "tree") t.next ++ records_text (map.entries t.records)

-- the table of mounts and the number of 9P messages
unfoldable pub closing : List ℕ → ℕ → List ℕ
closing table nine =
    codes "mounts\n" ++ (table ++ (codes "end\n" ++ number_line (codes "nine") nine))

unfoldable pub replies_text : List ℕ → List ℕ
replies_text replies = codes "replies\n" ++ hex_lines replies

-- the whole text: the replies, how the run ended, the tree, the mounts and the number of 9P
-- messages
unfoldable pub report : List ℕ → Verdict → Tree → List ℕ → List ℕ
report replies verdict t table =
    replies_text replies
    ++ (verdict_line verdict ++ (tree_text t ++ closing table (nine_frames_of verdict)))
