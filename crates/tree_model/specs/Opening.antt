-- What is opened, and what is read of it.
use Rattle.std.specs.Prelude.{ℕ, Bool, true, false, ◌&&◌, ◌||◌, List, [], ◌∷◌, Option, Some, None}
use Rattle.std.specs.Prelude.{Result, Ok, Err, if◌then◌else◌, ◌==◌, option_map, unwrap_or}
use Rattle.std.specs.Result.{result_ok}
use Rattle.port_base.specs.declared.errno.TheConstants.{ENOENT, EEXIST, ENOTDIR, EISDIR, EINVAL}
use Rattle.port_base.specs.declared.errno.TheConstants.{ELOOP}
use Rattle.port_base.specs.declared.oflag.TheConstants.{O_WRONLY, O_RDWR, O_ACCMODE, O_CREAT}
use Rattle.port_base.specs.declared.oflag.TheConstants.{O_EXCL, O_TRUNC, O_DIRECTORY}
use Rattle.port_base.specs.OpenFlags.{access, has_flag}
use Rattle.tree_model.specs.declared.attributes.Kind.{Kind}
use Rattle.tree_model.specs.declared.attributes.Kind.TheVariants as kind
use Rattle.tree_model.specs.Tree.{Tree, Body, body_at, TOP}
use Rattle.tree_model.specs.Tree.Body.{File, Directory, Link}
use Rattle.tree_model.specs.Attributes.{kind_of}
use Rattle.port_base.specs.Paths.{is_rooted_path}
use Rattle.tree_model.specs.Finding.{path_names, walk_step}
use Rattle.tree_model.specs.Reading.{part}

-- what the body at an inode answers; an inode that is held has one
abbrev pub body_answer : {A : Type 0} → (Body → Result A ℕ) → Option Body → Result A ℕ
body_answer ask None = Err ENOENT
body_answer ask (Some b) = ask b

-- an answer of nothing, or the refusal
abbrev pub unless : Option ℕ → Result (Unit {0}) ℕ
unless None = Ok tt
unless (Some e) = Err e

-- ---- opening

-- opened to write, or made, or cut to nothing
abbrev pub opens_to_change : ℕ → Bool
opens_to_change flags =
    access flags == O_WRONLY || access flags == O_RDWR
    || has_flag O_TRUNC flags || has_flag O_CREAT flags

-- a link is never opened, a file not as a directory, and a directory only to be read
abbrev pub kind_refused : ℕ → Kind → Option ℕ
kind_refused flags kind.File = if has_flag O_DIRECTORY flags then Some ENOTDIR else None
kind_refused flags kind.Directory = if opens_to_change flags then Some EISDIR else None
kind_refused flags kind.Link = Some ELOOP

-- the first refusal of an open of what is there
abbrev pub open_refused : ℕ → Kind → Option ℕ
open_refused flags k =
    if access flags == O_ACCMODE then Some EINVAL else
    if has_flag O_CREAT flags && has_flag O_EXCL flags then Some EEXIST else kind_refused flags k

-- `open_check`: nothing, or the first refusal
abbrev pub open_check_of : Tree → ℕ → ℕ → Result (Unit {0}) ℕ
open_check_of t ino flags =
    body_answer (λ b. unless (open_refused flags (kind_of b))) (body_at t.records ino)

-- ---- reading

abbrev pub read_body : ℕ → ℕ → Body → Result (List ℕ) ℕ
read_body offset size (File bytes) = Ok (part bytes offset size)
read_body offset size (Directory es next above) = Err EISDIR
read_body offset size (Link target) = Err EINVAL

-- `read_at`: the bytes of a file from an offset on, as many as there are, at most so many
abbrev pub read_of : Tree → ℕ → ℕ → ℕ → Result (List ℕ) ℕ
read_of t ino offset size = body_answer (read_body offset size) (body_at t.records ino)

-- ---- links

abbrev pub is_link_at : Option Body → Bool
is_link_at None = false
is_link_at (Some (File bytes)) = false
is_link_at (Some (Directory es next above)) = false
is_link_at (Some (Link target)) = true

-- the target of a link, none of what is no link
abbrev pub target_of : Body → List ℕ
target_of (File bytes) = []
target_of (Directory es next above) = []
target_of (Link target) = target

abbrev pub target_at : Tree → ℕ → List ℕ
target_at t ino = unwrap_or (option_map target_of (body_at t.records ino)) []

abbrev pub readlink_body : Body → Result (List ℕ) ℕ
readlink_body (File bytes) = Err EINVAL
readlink_body (Directory es next above) = Err EINVAL
readlink_body (Link target) = Ok target

-- `readlink`: the target, or EINVAL for what is no link
abbrev pub readlink_of : Tree → ℕ → Result (List ℕ) ℕ
readlink_of t ino = body_answer readlink_body (body_at t.records ino)

-- ---- paths

-- walks names on from what a walk has so far, to whatever stands at the end
abbrev pub walk_to : Tree → Result ℕ ℕ → List (List ℕ) → Result ℕ ℕ
walk_to t at [] = at
walk_to t at (name ∷ names) = walk_to t (walk_step t name at) names

-- the inode at the end of a path of names from the top, if there is one
abbrev pub found_at : Tree → List (List ℕ) → Option ℕ
found_at t names = result_ok (walk_to t (Ok TOP) names)

-- the inode at the end of a rooted path; another path leads nowhere
abbrev pub at_path : Tree → List ℕ → Option ℕ
at_path t path = if is_rooted_path path then found_at t (path_names path) else None
