-- The steps on a table of mounts keep it good.
use Rattle.std.proofs.Common.{◌≡◌, ◌≢◌, ◌∙◌, ℕ, Bool, true, false, List, []}
use Rattle.std.proofs.Common.{◌∷◌, Some, None, Ok, Err, Option, Result, IfSome, All}
use Rattle.std.proofs.Common.{ap, sym, refl, subst, arith, slice_get, reverse}
use Rattle.std.specs.Prelude.{filter, if◌then◌else◌, not, ◌||◌, ◌==◌}
use Rattle.std.specs.List.{list_any}
use Rattle.std.proofs.lemmas.Bool.{false≢true}
use Rattle.std.proofs.lemmas.List.Elements.{All-cons, All-head, All-nil}
use Rattle.std.proofs.lemmas.List.Elements.{All-tail, All-weaker}
use Rattle.port_base.specs.Flags.{bits_of}
use Rattle.port_base.specs.declared.flags.TheConstants.MsFlags.{MS_BIND, MS_MOVE, MS_REMOUNT}
use Rattle.port_base.specs.declared.errno.TheConstants.{EBUSY, EINVAL}
use Rattle.libmount.specs.declared.mounter.MountFault.{MountFault}
use Rattle.libmount.specs.declared.mounter.MountFault.TheVariants.{Errno, Fault, NoMemory}
use Rattle.libmount.specs.Mounters.{HasRoom, IsGoodRow, Leaves, LeavesBy}
use Rattle.libmount.specs.Mounters.{Calls, Caused, is_remount}
use Rattle.libmount.specs.MountTables.{first_table, is_parent_of, root_mount}
use Rattle.libmount.specs.MountTables.{Mount, MountCall, MountTable, bind}
use Rattle.libmount.specs.MountTables.{by_flags, has}
use Rattle.libmount.specs.MountTables.{is_absolute, is_at, is_empty_text, is_there}
use Rattle.libmount.specs.MountTables.{last_at, mount, move_mount, new_mount}
use Rattle.libmount.specs.MountTables.{umount, without_last}
use Rattle.fuse_mnt.specs.Kept.{HasTop, IsKept, IsKeptIn, IsLater}
use Rattle.fuse_mnt.proofs.LookupLemmas.{last_found}
use Rattle.fuse_mnt.proofs.KeptRows.{if_either, given_either, good_later, remount_kept, bind_kept}
use Rattle.fuse_mnt.proofs.KeptRows.{new_kept}
use Rattle.fuse_mnt.proofs.KeptMoves.{equal, either_false, both_true, move_kept}

-- ---- mounts

by_flags_kept : (call : MountCall) (table : MountTable) → IsKept table
    → is_absolute call.target ≡ true → is_empty_text call.source ≡ false
    → is_empty_text call.fstype ≡ false → (is_remount call.flags ≡ false → HasRoom table)
    → IsKeptIn (by_flags call table)
by_flags_kept call table kept absolute source some room =
    if_either IsKeptIn (has call.flags (bits_of MS_REMOUNT)) _ _
    (λ is. remount_kept call table kept)
    (λ other. if_either IsKeptIn (has call.flags (bits_of MS_BIND)) _ _
    (λ is. given_either call.source (λ from. bind from call table)
    (λ from given. bind_kept from call table kept absolute (room other)))
    (λ isnt. if_either IsKeptIn (has call.flags (bits_of MS_MOVE)) _ _
    (λ is. given_either call.source (λ from. move_mount from call table)
    (λ from given. move_kept from call table kept))
    (λ none. given_either call.fstype (λ fstype. new_mount fstype call table)
    (λ fstype given. new_kept fstype call table kept absolute source
    (ap is_empty_text (sym given) ∙ some) (room other)))))

mount_kept : (call : MountCall) (table : MountTable) → IsKept table
    → (is_remount call.flags ≡ false → HasRoom table) → IsKeptIn (mount call table)
unfolding mount
mount_kept call table kept room =
    if_either IsKeptIn (not (is_there table call.target)) _ _ (λ isnt. tt)
    (λ there. if_either IsKeptIn (not table.permitted) _ _ (λ isnt. tt)
    (λ permitted. if_either IsKeptIn (is_empty_text call.source || is_empty_text call.fstype) _ _
    (λ empty. tt)
    (λ texts. let both = either_false _ _ texts in
    by_flags_kept call table kept (both_true _ _ (not_false _ there)).0 both.0 both.1 room)))
  where
    not_false : (b : Bool) → not b ≡ false → b ≡ true
    not_false true is = refl
    not_false false is = absurd (false≢true (sym is))

-- ---- unmounting

removed_all : (P : Mount → Type 0) (test : Mount → Bool) (rows : List Mount) → All P rows
    → All P (without_last test rows)
removed_all P test [] all = all
removed_all P test (row ∷ rows) all =
    if_either (All P) (list_any test rows) _ _
    (λ some. All-cons P row (without_last test rows) (All-head P row rows all)
    (removed_all P test rows (All-tail P row rows all)))
    (λ none. if_either (All P) (test row) _ _ (λ is. All-tail P row rows all) (λ isnt. all))

removed_top : (test : Mount → Bool) (rows : List Mount) → HasTop rows
    → IfSome (slice_get (reverse (filter test rows)) 0) (λ found. (found.id == 1) ≡ false)
    → HasTop (without_last test rows)
removed_top test [] top stays = absurd top
removed_top test (row ∷ rows) top stays =
    if_either HasTop (list_any test rows) (row ∷ without_last test rows) _
    (λ some. (top.0, removed_all IsLater test rows top.1))
    (λ none. if_either HasTop (test row) rows (row ∷ rows)
    (λ is. absurd (false≢true (sym
    (subst (λ o. IfSome o (λ found. (found.id == 1) ≡ false))
    (last_found test (row ∷ rows) 0 (omega arith) is none) stays)
    ∙ equal row.id 1 top.0.0)))
    (λ isnt. top))

umount_kept : (target : List ℕ) (table : MountTable) → IsKept table
    → IsKeptIn (umount target table)
unfolding umount
umount_kept target table kept = by (last_at target table.rows) refl
  where
    by : (found : Option Mount) → last_at target table.rows ≡ found
        → IsKeptIn (elim found [
          | None ↦ Err EINVAL
          | Some row ↦ if (row.id == 1) || list_any (is_parent_of row) table.rows then Err EBUSY
              else Ok (record table { rows = without_last (is_at target) table.rows })
        ])
    by None is = tt
    by (Some row) is =
        if_either IsKeptIn ((row.id == 1) || list_any (is_parent_of row) table.rows) _ _
        (λ busy. tt)
        (λ free. record {
          top = removed_top (is_at target) table.rows kept.top
              (subst (λ o. IfSome o (λ found. (found.id == 1) ≡ false)) (sym is)
              (either_false _ _ free).0);
          rows = All-weaker (IsGoodRow table) (IsGoodRow _)
              (good_later table _ (omega arith) (omega arith)) _
              (removed_all (IsGoodRow table) (is_at target) table.rows kept.rows);
          first = kept.first;
          next_id = kept.next_id;
          next_minor = kept.next_minor;
        })

-- ---- what a step leaves

left_by : (told : Result MountTable ℕ) (old new : MountTable) (result : Result (Unit {0}) MountFault)
    → IsKept old → IsKeptIn told → LeavesBy told old new result → IsKept new
left_by told old new (Ok done) kept step leaves = subst IsKeptIn leaves step
left_by told old new (Err (Errno errno)) kept step leaves = subst IsKept (sym leaves.1) kept
left_by told old new (Err Fault) kept step leaves = subst IsKept (sym leaves) kept
left_by told old new (Err NoMemory) kept step leaves = subst IsKept (sym leaves) kept

pub mounted_kept : (call : MountCall) (old new : MountTable) (result : Result (Unit {0}) MountFault)
    → IsKept old → (is_remount call.flags ≡ false → HasRoom old)
    → Leaves (mount call old) old new result → IsKept new
mounted_kept call old new result kept room leaves =
    left_by (mount call old) old new result kept (mount_kept call old kept room) leaves.exactly

pub unmounted_kept : (target : List ℕ) (old new : MountTable)
    (result : Result (Unit {0}) MountFault) → IsKept old → Leaves (umount target old) old new result
    → IsKept new
unmounted_kept target old new result kept leaves =
    left_by (umount target old) old new result kept (umount_kept target old kept) leaves.exactly

pub first_kept : (permitted : Bool) → IsKept (first_table permitted)
first_kept permitted = record {
  top = ((refl, refl, refl), All-nil IsLater);
  rows = All-cons (IsGoodRow (first_table permitted)) root_mount [] (record {
    id = omega arith;
    parent = omega arith;
    minor = omega arith;
    root = refl;
    point = refl;
    flags = refl;
    fstype = omega arith;
    source = omega arith;
    super_options = omega arith;
  }) (All-nil (IsGoodRow (first_table permitted)));
  first = omega arith;
  next_id = omega arith;
  next_minor = omega arith;
}

pub present_kept : (present : List (List ℕ)) (table : MountTable) → IsKept table
    → IsKept (record table { present = present })
present_kept present table kept = record {
  top = kept.top;
  rows = All-weaker (IsGoodRow table) (IsGoodRow _) (good_later table _ (omega arith) (omega arith))
      table.rows kept.rows;
  first = kept.first;
  next_id = kept.next_id;
  next_minor = kept.next_minor;
}

-- a call that didn't fault is no cause of a fault
pub caused_by_none : (old new : Calls) (result : Result (Unit {0}) MountFault) → new ≡ old
    → result ≢ Err Fault → Caused old new result
caused_by_none old new (Ok done) same isnt = record { cause = same }
caused_by_none old new (Err (Errno errno)) same isnt = record { cause = same }
caused_by_none old new (Err Fault) same isnt = absurd (isnt refl)
caused_by_none old new (Err NoMemory) same isnt = record { cause = same }
