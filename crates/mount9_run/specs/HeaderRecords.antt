-- The records of a header: what each line adds to the tree, and where.
use Rattle.std.specs.Prelude.{ℕ, List, [], length, Option, Some, None, Result, Ok, Err, ◌==◌, ◌&&◌}
use Rattle.std.specs.Prelude.{not, nat_le, if◌then◌else◌, Bool, codes, bytes_eq}
use Rattle.std.specs.List.{list_any}
use Rattle.std.specs.Str.{is_utf8}
use Rattle.hex.specs.Hex.{decode_of}
use Rattle.hex.specs.declared.error.FromHexError.{FromHexError}
use Rattle.port_base.specs.Escapes.{unescaped}
use Rattle.tree_model.specs.declared.attributes.Stamp.{Stamp}
use Rattle.tree_model.specs.Tree.{Tree}
use Rattle.tree_model.specs.Making.{NewFile, add_file_of}
use Rattle.tree_model.specs.Opening.{at_path}
use Rattle.tree_model.specs.Placing.{add_directory_of, add_hard_of, add_link_of}
use Rattle.tree_machine.specs.declared.limits.TheConstants.{TARGET_LIMIT}
use Rattle.mount9_run.specs.Reading.{◌>>=◌, check, or_refused, field_at}
use Rattle.mount9_run.specs.Numbers.{number_field, mode_field}
use Rattle.mount9_run.specs.HeaderLines.{OWNER_MAX}
use Rattle.mount9_run.specs.Paths.{is_root, split_last}

-- what a line adds: a directory, a file, a symbolic link, or one more name of what stands at a path
pub data Item : Type 0 where
  directory : (mode uid gid : ℕ) → Item
  file : (f : NewFile) → Item
  link : (uid gid : ℕ) (target : List ℕ) → Item
  hard : (old : List ℕ) → Item

-- the same, and at which path
pub record RecordLine : Type 0 where
  pub item : Item
  pub path : List ℕ

-- ---- fields

abbrev pub decoded : Result (List ℕ) FromHexError → Option (List ℕ)
decoded (Ok bytes) = Some bytes
decoded (Err e) = None

-- hex of either case, or - for nothing
unfoldable pub bytes_of : List ℕ → Option (List ℕ)
bytes_of text = if bytes_eq text (codes "-") then Some [] else if length text == 0 then None
    else decoded (decode_of text)

unfoldable pub bytes_field : ℕ → List ℕ → Result (List ℕ × List ℕ) ℕ
bytes_field n line = do
  f ← field_at n line
  v ← or_refused n (bytes_of f.0)
  Ok (v, f.1)

-- one name without fault or more, each behind a slash
abbrev pub is_record_path : List ℕ → Bool
is_record_path path = is_root path && not (length path == 1)

-- such a path, with escapes
unfoldable pub record_path_at : ℕ → List ℕ → Result (List ℕ) ℕ
record_path_at n field = do
  path ← or_refused n (unescaped field)
  ok ← check n (is_record_path path)
  Ok path

-- text of 1 to 4000 bytes without a zero byte
abbrev pub is_target : List ℕ → Bool
is_target text =
    nat_le 1 (length text)
    && (nat_le (length text) TARGET_LIMIT && (is_utf8 text && not (list_any (λ b. b == 0) text)))

-- the target of a symbolic link, with escapes
unfoldable pub target_field : ℕ → List ℕ → Result (List ℕ × List ℕ) ℕ
target_field n line = do
  f ← field_at n line
  target ← or_refused n (unescaped f.0)
  ok ← check n (is_target target)
  Ok (target, f.1)

-- ---- lines

-- `dir MODE UID GID PATH`
unfoldable pub directory_at : ℕ → List ℕ → Result RecordLine ℕ
directory_at n fields = do
  mode ← mode_field n fields
  uid ← number_field 0 OWNER_MAX n mode.1
  gid ← number_field 0 OWNER_MAX n uid.1
  path ← record_path_at n gid.1
  Ok (record { item = directory mode.0 uid.0 gid.0; path = path })

-- `file MODE UID GID HEX PATH`
unfoldable pub file_at : ℕ → List ℕ → Result RecordLine ℕ
file_at n fields = do
  mode ← mode_field n fields
  uid ← number_field 0 OWNER_MAX n mode.1
  gid ← number_field 0 OWNER_MAX n uid.1
  bytes ← bytes_field n gid.1
  path ← record_path_at n bytes.1
  Ok (record { item = file (record { mode = mode.0; uid = uid.0; gid = gid.0; bytes = bytes.0 }); path = path })

-- `link UID GID TARGET PATH`
unfoldable pub link_at : ℕ → List ℕ → Result RecordLine ℕ
link_at n fields = do
  uid ← number_field 0 OWNER_MAX n fields
  gid ← number_field 0 OWNER_MAX n uid.1
  target ← target_field n gid.1
  path ← record_path_at n target.1
  Ok (record { item = link uid.0 gid.0 target.0; path = path })

-- `hard OLD PATH`
unfoldable pub hard_at : ℕ → List ℕ → Result RecordLine ℕ
hard_at n fields = do
  f ← field_at n fields
  old ← record_path_at n f.0
  path ← record_path_at n f.1
  Ok (record { item = hard old; path = path })

-- a record's line, by its first word
unfoldable pub record_line : ℕ → List ℕ → Result RecordLine ℕ
record_line n line = do
  f ← field_at n line
  if bytes_eq f.0 (codes "file") then file_at n f.1 else
      if bytes_eq f.0 (codes "dir") then directory_at n f.1 else
      if bytes_eq f.0 (codes "link") then link_at n f.1 else
      if bytes_eq f.0 (codes "hard") then hard_at n f.1 else Err n

-- ---- the tree

-- the tree that an addition leaves, or the refused line
abbrev pub added : ℕ → Result (ℕ × Tree) ℕ → Result Tree ℕ
added n (Ok p) = Ok p.1
added n (Err errno) = Err n

-- what stands at a path
abbrev pub standing : ℕ → Tree → List ℕ → Result ℕ ℕ
standing n t path = or_refused n (at_path t path)

-- the tree with one entry more, and what it names where that is new
abbrev pub with_item : Stamp → ℕ → Tree → ℕ → List ℕ → Item → Result Tree ℕ
with_item born n t dir name (directory mode uid gid) =
    added n (add_directory_of born t dir name mode uid gid)
with_item born n t dir name (file f) = added n (add_file_of born t dir name f)
with_item born n t dir name (link uid gid target) =
    added n (add_link_of born t dir name uid gid target)
with_item born n t dir name (hard old) =
    standing n t old >>= (λ ino. added n (add_hard_of t dir name ino))

-- the path of a directory, of what stands before the last slash of a path below it
abbrev pub directory_path : List ℕ → List ℕ
directory_path front = if length front == 0 then codes "/" else front

-- below the directory whose path stands before the last slash, by the name behind it
unfoldable pub with_line : Stamp → ℕ → Tree → RecordLine → Result Tree ℕ
with_line born n t r = do
  split ← or_refused n (split_last r.path)
  dir ← standing n t (directory_path split.0)
  with_item born n t dir split.1 r.item

-- the tree with one record or name more, or the line `end`
unfoldable pub record_at : Stamp → ℕ → Tree → List ℕ → Result (Option Tree) ℕ
record_at born n t line = if bytes_eq line (codes "end") then Ok None else (do
  r ← record_line n line
  more ← with_line born n t r
  Ok (Some more))
