-- A name that moves.
use Rattle.std.specs.Prelude.{ℕ, zero, suc, ◌^◌, ◌-◌, Bool, true, false, not, ◌&&◌, ◌||◌, List}
use Rattle.std.specs.Prelude.{length, Option, None, Some, Result, Ok, Err, if◌then◌else◌, ◌==◌}
use Rattle.std.specs.Prelude.{nat_le, option_map, unwrap_or, is_some}
use Rattle.std.specs.Result.{result_ok}
use Rattle.port_base.specs.declared.errno.TheConstants.{ENOENT, ENOTDIR, EISDIR, EINVAL, ENOSPC}
use Rattle.port_base.specs.declared.errno.TheConstants.{ENOTEMPTY}
use Rattle.tree_model.specs.declared.attributes.Stamp.{Stamp}
use Rattle.tree_model.specs.Tree.{Tree, Record, Records, Body, TOP, body_at, listed}
use Rattle.tree_model.specs.Tree.{is_directory_at, is_linked, keep}
use Rattle.tree_model.specs.Tree.Body.{File, Directory, Link}
use Rattle.tree_model.specs.Finding.{lookup_of}
use Rattle.tree_model.specs.Making.{joined_by, next_cookie, unless_refused}
use Rattle.tree_model.specs.Reading.{above}
use Rattle.tree_model.specs.Attributing.{with_changed}
use Rattle.tree_model.specs.Creating.{stamped}
use Rattle.tree_model.specs.Unlinking.{parted_by, without_entry, is_empty_at}

-- ---- where a directory stands

abbrev pub above_at : Records → ℕ → ℕ
above_at rs i = unwrap_or (option_map above (body_at rs i)) 0

-- a climb from a directory comes to the top, in fewer steps than given, and never to an inode
abbrev pub climbs_past : Records → ℕ → ℕ → ℕ → Bool
climbs_past rs ino zero at = false
climbs_past rs ino (suc steps) at =
    if at == ino then false else
    if at == TOP then true else climbs_past rs ino steps (above_at rs at)

-- an inode that is a directory, and a directory at or below it; a climb has fewer steps than there
-- are numbers
abbrev pub is_at_or_below : Tree → ℕ → ℕ → Bool
is_at_or_below t ino dir =
    is_directory_at (body_at t.records ino) && not (climbs_past t.records ino t.next dir)

-- ---- what refuses a move

-- a directory takes the place of an empty directory alone, and what is no directory that of no
-- directory
abbrev pub place_refused : Option Body → Option Body → Option ℕ
place_refused moved replaced =
    if is_directory_at moved && not (is_directory_at replaced) then Some ENOTDIR else
    if not (is_directory_at moved) && is_directory_at replaced then Some EISDIR else
    if is_empty_at replaced then None else Some ENOTEMPTY

abbrev pub replace_refused : Records → ℕ → Option ℕ → Option ℕ
replace_refused rs ino None = None
replace_refused rs ino (Some replaced) = place_refused (body_at rs ino) (body_at rs replaced)

-- there is no room for the entry: no cookie is left, or the directory has one entry more than
-- before and is full
abbrev pub has_no_room : ℕ → Bool → Body → Bool
has_no_room limit more b =
    (more && nat_le limit (length (listed b))) || nat_le (2 ^ 64 - 1) (next_cookie b)

abbrev pub room_refused : ℕ → Bool → Option Body → Option ℕ
room_refused limit more None = Some ENOTDIR
room_refused limit more (Some b) = if has_no_room limit more b then Some ENOSPC else None

abbrev pub first_of : Option ℕ → Option ℕ → Option ℕ
first_of None e = e
first_of (Some d) e = Some d

-- the first refusal of the move of an inode into a directory, where it may replace another
abbrev pub move_refused : Tree → ℕ → ℕ → ℕ → Option ℕ → Option ℕ
move_refused t olddir newdir ino replaced =
    if is_at_or_below t ino newdir then Some EINVAL else
    first_of (replace_refused t.records ino replaced)
    (room_refused t.limits.entries (not (is_some replaced) && not (olddir == newdir))
    (body_at t.records newdir))

-- ---- what a move leaves

abbrev pub placed_below : ℕ → Body → Body
placed_below dir (File bytes) = File bytes
placed_below dir (Directory es next up) = Directory es next dir
placed_below dir (Link target) = Link target

-- what is moved: ctime becomes the moment, and a directory stands below the new one
abbrev pub moved_below : Stamp → ℕ → Record → Record
moved_below moment dir r = record r { body = placed_below dir r.body; ctime = moment }

-- without the old entry, with one of the new name
abbrev pub with_moved : Tree → ℕ → List ℕ → ℕ → List ℕ → ℕ → Tree
with_moved t olddir oldname newdir newname ino =
    with_changed (moved_below t.moment newdir) ino
    (with_changed (stamped t.moment) newdir
    (with_changed (joined_by newname ino) newdir
    (with_changed (parted_by oldname t.moment) olddir t)))

-- without the entry of what is replaced
abbrev pub without_replaced : Tree → ℕ → List ℕ → Option ℕ → Tree
without_replaced t newdir newname None = t
without_replaced t newdir newname (Some replaced) = without_entry t newdir newname replaced

-- ---- the call

-- the inode that the new name names is there: the same, or another that is replaced, or none
abbrev pub same_ino : ℕ → Option ℕ → Bool
same_ino ino None = false
same_ino ino (Some i) = i == ino

abbrev pub move_to : (ℕ → Bool) → Tree → ℕ → List ℕ → ℕ → List ℕ → ℕ → Option ℕ
    → Result (Unit {0} × Tree) ℕ
move_to held t olddir oldname newdir newname ino there =
    if same_ino ino there then Ok (tt, t) else
    unless_refused (move_refused t olddir newdir ino there) tt
    (keep held
    (with_moved (without_replaced t newdir newname there) olddir oldname newdir newname ino))

abbrev pub renamed_at : (ℕ → Bool) → Tree → ℕ → List ℕ → ℕ → List ℕ → Result ℕ ℕ
    → Result (Unit {0} × Tree) ℕ
renamed_at held t olddir oldname newdir newname (Err e) = Err e
renamed_at held t olddir oldname newdir newname (Ok ino) =
    if not (is_linked t.records newdir) then Err ENOENT else
    move_to held t olddir oldname newdir newname ino (result_ok (lookup_of t newdir newname))

-- `rename`: ENOTDIR where either is no directory, ENOENT where no entry has the old name or no
-- entry names the new directory; nothing changes where the new name names the same inode; EINVAL
-- for a directory into itself or below, then what refuses that one takes the place of another, and
-- ENOSPC
abbrev pub rename_of : (ℕ → Bool) → Tree → ℕ → List ℕ → ℕ → List ℕ → Result (Unit {0} × Tree) ℕ
rename_of held t olddir oldname newdir newname =
    if not (is_directory_at (body_at t.records olddir))
    || not (is_directory_at (body_at t.records newdir)) then Err ENOTDIR else
    renamed_at held t olddir oldname newdir newname (lookup_of t olddir oldname)
