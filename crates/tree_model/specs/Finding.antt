-- Names and paths in a tree.
use Rattle.std.specs.Prelude.{ℕ, Bool, false, not, List, [], ◌∷◌, length, filter, Option, Some}
use Rattle.std.specs.Prelude.{find as first_where, None, Result, Ok, Err, ok_or, option_map}
use Rattle.std.specs.Prelude.{option_and_then, if◌then◌else◌, ◌==◌, bytes_eq, map, is_some}
use Rattle.std.specs.Char.{to_ascii_lowercase}
use Rattle.std.specs.List.{slice_split}
use Rattle.port_base.specs.declared.errno.TheConstants.{ENOENT, ENOTDIR}
use Rattle.tree_model.specs.Tree.{Tree, Records, Body, DirEntry, TOP, body_at, is_directory_at}
use Rattle.tree_model.specs.Tree.Body.{File, Directory, Link}

-- the entries, where it is a directory
abbrev pub entries_of : Body → Option (List DirEntry)
entries_of (File bytes) = None
entries_of (Directory entries next above) = Some entries
entries_of (Link target) = None

abbrev pub entries_at : Records → ℕ → Option (List DirEntry)
entries_at rs dir = option_and_then entries_of (body_at rs dir)

-- the entry with exactly this name
abbrev pub entry_named : List ℕ → List DirEntry → Option DirEntry
entry_named name es = first_where (λ e. bytes_eq e.name name) es

-- equal, where the case of ASCII letters is ignored
abbrev pub same_folded : List ℕ → List ℕ → Bool
same_folded a b = bytes_eq (map to_ascii_lowercase a) (map to_ascii_lowercase b)

-- the first entry, in cookie order, whose name is the same but for case
abbrev pub entry_folded : List ℕ → List DirEntry → Option DirEntry
entry_folded name es = first_where (λ e. same_folded e.name name) es

abbrev pub ino_or_missing : Option DirEntry → Result ℕ ℕ
ino_or_missing None = Err ENOENT
ino_or_missing (Some e) = Ok e.ino

-- the exact name first; with case folded a name that differs in case alone
abbrev pub found_among : Bool → List ℕ → List DirEntry → Option DirEntry
found_among casefold name es =
    if is_some (entry_named name es) then entry_named name es else
    if casefold then entry_folded name es else None

abbrev pub ino_among : Bool → List ℕ → Option (List DirEntry) → Result ℕ ℕ
ino_among casefold name None = Err ENOTDIR
ino_among casefold name (Some es) = ino_or_missing (found_among casefold name es)

-- the name, as the directory has it, that is the first to be the same but for case
abbrev pub folded_name_among : List ℕ → Option (List DirEntry) → Result (List ℕ) ℕ
folded_name_among name None = Err ENOTDIR
folded_name_among name (Some es) =
    ok_or (option_map (λ (e : DirEntry). e.name) (entry_folded name es)) ENOENT

abbrev pub folded_name_of : Tree → ℕ → List ℕ → Result (List ℕ) ℕ
folded_name_of t dir name = folded_name_among name (entries_at t.records dir)

-- the inode that a name of a directory names, with case folded or not
abbrev pub find : Bool → Tree → ℕ → List ℕ → Result ℕ ℕ
find casefold t dir name = ino_among casefold name (entries_at t.records dir)

-- the same by exact name
abbrev pub lookup_of : Tree → ℕ → List ℕ → Result ℕ ℕ
lookup_of t dir name = find false t dir name

-- ---- paths

-- the names of a path, without the empty parts between slashes
abbrev pub path_names : List ℕ → List (List ℕ)
path_names path = filter (λ part. not (length part == 0)) (slice_split (λ b. b == 47) path)

-- one more name of a walk by exact names
abbrev pub walk_step : Tree → List ℕ → Result ℕ ℕ → Result ℕ ℕ
walk_step t name (Ok i) = lookup_of t i name
walk_step t name (Err e) = Err e

abbrev pub directory_or_not : Option Body → ℕ → Result ℕ ℕ
directory_or_not b i = if is_directory_at b then Ok i else Err ENOTDIR

abbrev pub walk_end : Tree → Result ℕ ℕ → Result ℕ ℕ
walk_end t (Ok i) = directory_or_not (body_at t.records i) i
walk_end t (Err e) = Err e

-- walks names on from what a walk has so far; what it ends at has to be a directory
abbrev pub walk_on : Tree → Result ℕ ℕ → List (List ℕ) → Result ℕ ℕ
walk_on t at [] = walk_end t at
walk_on t at (name ∷ names) = walk_on t (walk_step t name at) names

-- the directory at the end of a path of names from the top
abbrev pub root_of : Tree → List (List ℕ) → Result ℕ ℕ
root_of t names = walk_on t (Ok TOP) names
