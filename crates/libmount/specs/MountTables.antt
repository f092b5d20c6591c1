-- The table of mounts, and what mounting and unmounting make of it.
use Rattle.std.specs.Prelude.{ℕ, ◌+◌, List, [], ◌∷◌, ◌++◌, length, drop, filter, map, Bool, false}
use Rattle.std.specs.Prelude.{not, ◌&&◌, ◌||◌, ◌==◌, nat_lt, if◌then◌else◌, slice_index, slice_get}
use Rattle.std.specs.Prelude.{reverse, codes, Option, Some, None, Result, Ok, Err}
use Rattle.std.specs.List.{fold, flat_map, join_by, list_any}
use Rattle.std.specs.Fmt.{decimal}
use Rattle.std.specs.Int.RustNames.{bit_and}
use Rattle.port_base.specs.Escapes.{escaped}
use Rattle.port_base.specs.Flags.{bits_of}
use Rattle.port_base.specs.Paths.{components, is_slash, names, path_starts_with, same_path}
use Rattle.port_base.specs.declared.errno.TheConstants.{EBUSY, EINVAL, ENOENT, EPERM}
use Rattle.port_base.specs.declared.flags.TheConstants.MsFlags.{MS_BIND, MS_MOVE, MS_REC}
use Rattle.port_base.specs.declared.flags.TheConstants.MsFlags.{MS_REMOUNT}
use Rattle.libmount.specs.MountOptions.{option_names, shown_flags}

-- ---- tables

-- a mounted file system
pub record Mount : Type 0 where
  pub id : ℕ
  pub parent : ℕ
  pub minor : ℕ
  pub root : List ℕ
  pub point : List ℕ
  pub flags : ℕ
  pub fstype : List ℕ
  pub source : List ℕ
  pub super_options : List ℕ

-- its rows in order, the paths that are there, whether mounting is permitted, and the numbers that
-- come next
pub record MountTable : Type 0 where
  pub rows : List Mount
  pub present : List (List ℕ)
  pub permitted : Bool
  pub next_id : ℕ
  pub next_minor : ℕ

-- the root file system
abbrev pub root_mount : Mount
root_mount = record {
  id = 1;
  parent = 1;
  minor = 1;
  root = codes "/";
  point = codes "/";
  flags =
      0;
  fstype = codes "rootfs";
  source = codes "rootfs";
  super_options = codes "rw";
}

abbrev pub first_table : Bool → MountTable
first_table permitted = record {
  rows = root_mount ∷ [];
  present = codes "/" ∷ [];
  permitted =
      permitted;
  next_id = 2;
  next_minor = 2;
}

-- ---- paths

-- the path of these names from the top
abbrev pub path_of : List (List ℕ) → List ℕ
path_of parts = codes "/" ++ join_by (λ part. part) (codes "/") parts

-- the path, with what it has below one place put below another
abbrev pub moved_path : List ℕ → List ℕ → List ℕ → List ℕ
moved_path from to path = path_of (names to ++ drop (length (names from)) (names path))

abbrev pub is_absolute : List ℕ → Bool
is_absolute path = is_slash (slice_index path 0)

-- an absolute path that is there
abbrev pub is_there : MountTable → List ℕ → Bool
is_there table path = is_absolute path && list_any (same_path path) table.present

abbrev pub is_at : List ℕ → Mount → Bool
is_at path row = same_path row.point path

-- the last mount at a path
abbrev pub last_at : List ℕ → List Mount → Option Mount
last_at path rows = slice_get (reverse (filter (is_at path) rows)) 0

-- the one of two mounts whose point is the longer front of the path, the second where both are as
-- long
abbrev pub nearer : List ℕ → Mount → Mount → Mount
nearer path best row = if path_starts_with path row.point
    && not (nat_lt (length (components row.point)) (length (components best.point))) then row
    else best

-- the mount that shows the path: the first covers all paths
unfoldable pub cover : List ℕ → List Mount → Mount
cover path [] = root_mount
cover path (row ∷ rows) = fold (nearer path) row rows

-- ---- mounting

abbrev pub has : ℕ → ℕ → Bool
has flags flag = bit_and flags flag == flag

-- what is asked of the table
pub record MountCall : Type 0 where
  pub source : Option (List ℕ)
  pub target : List ℕ
  pub fstype : Option (List ℕ)
  pub flags : ℕ
  pub options : Option (List ℕ)

-- the row with the next number, behind the others, below the mount that covers its point
abbrev pub add_row : Mount → MountTable → MountTable
add_row row table = record table {
  rows = table.rows ++ record row { id = table.next_id; parent = (cover row.point table.rows).id }
      ∷ [];
  next_id = table.next_id + 1;
}

-- the last row that passes a test, changed
abbrev pub change_last : (Mount → Bool) → (Mount → Mount) → List Mount → List Mount
change_last test change [] = []
change_last test change (row ∷ rows) = if list_any test rows then row
    ∷ change_last test change rows else if test row then change row ∷ rows else row ∷ rows

abbrev pub remount : MountCall → MountTable → Result MountTable ℕ
remount call table =
    if list_any (is_at call.target) table.rows
    then Ok
    (record table {
      rows =
          change_last (is_at call.target)
          (λ row. record row { flags = bit_and call.flags shown_flags }) table.rows;
    })
    else Err EINVAL

-- the row of a bind, which has no number of its own yet
abbrev pub bound_row : List ℕ → List ℕ → MountTable → Mount
bound_row source target table =
    let row = cover source table.rows in
    record row { root = moved_path row.point row.root source; point = target }

-- the part of the tree at one place, shown at another too
abbrev pub bound : List ℕ → List ℕ → MountTable → MountTable
bound source target table = add_row (bound_row source target table) table

-- the row with a place below one path put below another
abbrev pub moved_row : List ℕ → List ℕ → Mount → Mount
moved_row source target row = record row { point = moved_path source target row.point }

-- a mount below one place, shown below another too
abbrev pub copy_row : List ℕ → List ℕ → MountTable → Mount → MountTable
copy_row source target table row = add_row (moved_row source target row) table

abbrev pub is_below : List ℕ → Mount → Bool
is_below path row = path_starts_with row.point path && not (is_at path row)

-- the same, with the mounts below the one place
abbrev pub bound_all : List ℕ → List ℕ → MountTable → MountTable
bound_all source target table = fold (copy_row source target) (bound source target table)
    (filter (is_below source) table.rows)

abbrev pub bind : List ℕ → MountCall → MountTable → Result MountTable ℕ
bind source call table =
    if not (is_there table source) then Err ENOENT else
    if has call.flags (bits_of MS_REC) then Ok (bound_all source call.target table)
    else Ok (bound source call.target table)

-- the numbers of a mount and of those below it, by their parents
abbrev pub with_child : List ℕ → Mount → List ℕ
with_child ids row = if list_any (λ id. id == row.parent) ids then row.id ∷ ids else ids

abbrev pub is_among : List ℕ → Mount → Bool
is_among ids row = list_any (λ id. id == row.id) ids

-- a row whose number isn't among these
abbrev pub stays_among : List ℕ → Mount → Bool
stays_among ids row = not (is_among ids row)

abbrev pub with_parent : ℕ → List Mount → List Mount
with_parent parent [] = []
with_parent parent (row ∷ rows) = record row { parent = parent } ∷ rows

-- the mount with a number and those below it go to the end, below the target
abbrev pub relocated : List ℕ → List ℕ → ℕ → List Mount → List Mount
relocated source target top rows =
    let ids = fold with_child (top ∷ []) rows in
    let others = filter (stays_among ids) rows in
    let moved = map (moved_row source target) (filter (is_among ids) rows) in
    others ++ with_parent (cover target others).id moved

abbrev pub move_mount : List ℕ → MountCall → MountTable → Result MountTable ℕ
move_mount source call table = elim (last_at source table.rows) [
  | None ↦ Err EINVAL
  | Some top ↦ if same_path source (codes "/") || path_starts_with call.target source
      then Err EINVAL
      else Ok (record table { rows = relocated source call.target top.id table.rows })
]

abbrev pub or_default : List ℕ → Option (List ℕ) → List ℕ
or_default default None = default
or_default default (Some text) = text

abbrev pub read_or_write : ℕ → List ℕ
read_or_write flags = if has flags 1 then codes "ro" else codes "rw"

-- `ro` or `rw`, and the options behind a comma where there are any
abbrev pub super_options_of : ℕ → List ℕ → List ℕ
super_options_of flags [] = read_or_write flags
super_options_of flags (byte ∷ bytes) = read_or_write flags ++ (codes "," ++ byte ∷ bytes)

-- the row of a new file system, which has no number of its own yet
abbrev pub new_row : List ℕ → MountCall → MountTable → Mount
new_row fstype call table = record {
  id = 0;
  parent = 0;
  minor = table.next_minor;
  root = codes "/";
  point = call.target;
  flags = bit_and call.flags shown_flags;
  fstype = fstype;
  source = or_default (codes "none") call.source;
  super_options = super_options_of call.flags (or_default [] call.options);
}

abbrev pub new_mount : List ℕ → MountCall → MountTable → Result MountTable ℕ
new_mount fstype call table =
    Ok (record (add_row (new_row fstype call table) table) { next_minor = table.next_minor + 1 })

-- a text that is given, or EINVAL
abbrev pub given : {A : Type 0} → Option (List ℕ) → (List ℕ → Result A ℕ) → Result A ℕ
given None step = Err EINVAL
given (Some text) step = step text

abbrev pub by_flags : MountCall → MountTable → Result MountTable ℕ
by_flags call table =
    if has call.flags (bits_of MS_REMOUNT) then remount call table else
    if has call.flags (bits_of MS_BIND) then given call.source (λ source. bind source call table)
    else
    if has call.flags (bits_of MS_MOVE)
    then given call.source (λ source. move_mount source call table) else
    given call.fstype (λ fstype. new_mount fstype call table)

abbrev pub is_empty_text : Option (List ℕ) → Bool
is_empty_text None = false
is_empty_text (Some text) = length text == 0

-- a mount, or the first refusal
unfoldable pub mount : MountCall → MountTable → Result MountTable ℕ
mount call table =
    if not (is_there table call.target) then Err ENOENT else
    if not table.permitted then Err EPERM else
    if is_empty_text call.source || is_empty_text call.fstype then Err EINVAL else
    by_flags call table

-- ---- unmounting

abbrev pub is_parent_of : Mount → Mount → Bool
is_parent_of row other = (other.parent == row.id) && not (other.id == row.id)

abbrev pub without_last : (Mount → Bool) → List Mount → List Mount
without_last test [] = []
without_last test (row ∷ rows) = if list_any test rows then row ∷ without_last test rows
    else if test row then rows else row ∷ rows

unfoldable pub umount : List ℕ → MountTable → Result MountTable ℕ
umount target table = elim (last_at target table.rows) [
  | None ↦ Err EINVAL
  | Some row ↦ if (row.id == 1) || list_any (is_parent_of row) table.rows then Err EBUSY
      else Ok (record table { rows = without_last (is_at target) table.rows })
]

-- ---- printing

abbrev pub spaced_field : List ℕ → List ℕ
spaced_field field = escaped field ++ codes " "

-- a mount as a line of mountinfo, without its line feed
unfoldable pub print_row : Mount → List ℕ
print_row row =
    decimal row.id
    ++ (codes " " ++ (decimal row.parent ++ (codes " 0:" ++ (decimal row.minor ++ (codes " "
    ++ (flat_map spaced_field (row.root ∷ row.point ∷ option_names row.flags ∷ []) ++ (codes "- "
    ++ (flat_map spaced_field (row.fstype ∷ row.source ∷ []) ++ escaped row.super_options))))))))

unfoldable pub print_table : MountTable → List ℕ
print_table table = flat_map (λ row. print_row row ++ codes "\n") table.rows
