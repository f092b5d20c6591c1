-- Rows that are found by their paths.
use Rattle.std.proofs.Common.{◌≡◌, ◌∙◌, ◌<◌, ◌+◌, ℕ, zero, suc, Bool, true, false, List, [], ◌∷◌, ◌++◌}
use Rattle.std.proofs.Common.{length, drop, take, Some, None, Ok, Err, ap, sym, refl, arith}
use Rattle.std.proofs.Common.{slice_index_or, slice_set, slice_get, reverse}
use Rattle.std.proofs.lemmas.Bool.{false≢true}
use Rattle.std.proofs.lemmas.List.{length-reverse, reverse-append}
use Rattle.std.specs.Prelude.{codes, filter, if◌then◌else◌, ◌||◌, ◌==◌, bit_and}
use Rattle.std.specs.List.{fold, list_any}
use Rattle.port_base.specs.Paths.{path_starts_with, same_path}
use Rattle.port_base.specs.declared.errno.TheConstants.{EBUSY, EINVAL}
use Rattle.libmount.specs.MountOptions.{shown_flags}
use Rattle.libmount.specs.Mounters.{Leaves}
use Rattle.libmount.specs.MountTables.{Mount, MountCall, MountTable, change_last, cover, is_at, last_at}
use Rattle.libmount.specs.MountTables.{is_parent_of, move_mount, nearer, relocated, remount}
use Rattle.libmount.specs.MountTables.{root_mount, umount}
use Rattle.libmount.specs.MountTables.{without_last}
use Rattle.fuse_mnt.specs.Tables.{IsLastAt, cover_id}

same_if : {X : Type 0} (b : Bool) (x : X) → (if b then x else x) ≡ x
same_if true x = refl
same_if false x = refl

pub cover_folded : (path : List ℕ) (rows : List Mount) → 0 < length rows →
    fold (nearer path) (slice_index_or rows 0 root_mount) rows ≡ cover path rows
unfolding cover
cover_folded path [] some = absurd (omega (arith, some))
cover_folded path (row ∷ rows) some = ap (λ first. fold (nearer path) first rows) (same_if _ row)

drop_more : (x : Mount) (xs : List Mount) (i : ℕ) → drop (suc i + 1) (x ∷ xs) ≡ drop (i + 1) xs
drop_more x xs i = let e : suc i + 1 ≡ suc (i + 1) = omega arith in rw e refl

or_true : (b : Bool) → (b || true) ≡ true
or_true true = refl
or_true false = refl

any_at : (p : Mount → Bool) (xs : List Mount) (i : ℕ) → i < length xs
    → p (slice_index_or xs i root_mount) ≡ true → list_any p xs ≡ true
any_at p [] i lt is = absurd (omega (arith, lt))
any_at p (x ∷ xs) zero lt is = rw is refl
any_at p (x ∷ xs) (suc i) lt is = rw (any_at p xs i (omega (arith, lt)) is) (or_true (p x))

changed_at : (p : Mount → Bool) (f : Mount → Mount) (xs : List Mount) (i : ℕ) → i < length xs
    → p (slice_index_or xs i root_mount) ≡ true → list_any p (drop (i + 1) xs) ≡ false
    → change_last p f xs ≡ slice_set xs i (f (slice_index_or xs i root_mount))
changed_at p f [] i lt is none = absurd (omega (arith, lt))
changed_at p f (x ∷ xs) zero lt is none = rw (none, is) refl
changed_at p f (x ∷ xs) (suc i) lt is none =
    rw (any_at p xs i (omega (arith, lt)) is)
    (ap (λ rest. x ∷ rest) (changed_at p f xs i (omega (arith, lt)) is
    (rw (drop_more x xs i) at none)))

removed_at : (p : Mount → Bool) (xs : List Mount) (i : ℕ) → i < length xs
    → p (slice_index_or xs i root_mount) ≡ true → list_any p (drop (i + 1) xs) ≡ false
    → without_last p xs ≡ take i xs ++ drop (i + 1) xs
removed_at p [] i lt is none = absurd (omega (arith, lt))
removed_at p (x ∷ xs) zero lt is none = rw (none, is) refl
removed_at p (x ∷ xs) (suc i) lt is none =
    rw (any_at p xs i (omega (arith, lt)) is, drop_more x xs i)
    (ap (λ rest. x ∷ rest) (removed_at p xs i (omega (arith, lt)) is
    (rw (drop_more x xs i) at none)))

none_step : (b c : Bool) → (b || c) ≡ false → (b ≡ false) × (c ≡ false)
none_step true c none = absurd (false≢true (sym none))
none_step false c none = (refl, none)

some_step : (b c : Bool) (x : Mount) (ys : List Mount) → (b || c) ≡ true
    → (c ≡ true → 0 < length ys) → 0 < length (if b then x ∷ ys else ys)
some_step true c x ys some later = omega arith
some_step false c x ys some later = later some

none_left : (p : Mount → Bool) (xs : List Mount) → list_any p xs ≡ false → filter p xs ≡ []
none_left p [] none = refl
none_left p (x ∷ xs) none =
    let both = none_step (p x) (list_any p xs) none in rw (both.0) (none_left p xs both.1)

some_left : (p : Mount → Bool) (xs : List Mount) → list_any p xs ≡ true → 0 < length (filter p xs)
some_left p [] some = absurd (false≢true some)
some_left p (x ∷ xs) some = some_step (p x) (list_any p xs) x (filter p xs) some (some_left p xs)

front_of : (zs ys : List Mount) → 0 < length zs → slice_get (zs ++ ys) 0 ≡ slice_get zs 0
front_of [] ys some = absurd (omega (arith, some))
front_of (z ∷ zs) ys some = refl

last_more : (b : Bool) (x : Mount) (ys : List Mount) → 0 < length ys
    → slice_get (reverse (if b then x ∷ ys else ys)) 0 ≡ slice_get (reverse ys) 0
last_more true x ys some =
    ap (λ zs. slice_get zs 0) (reverse-append (x ∷ []) ys)
    ∙ front_of (reverse ys) (x ∷ []) (rw (length-reverse ys) some)
last_more false x ys some = refl

pub last_found : (p : Mount → Bool) (xs : List Mount) (i : ℕ) → i < length xs
    → p (slice_index_or xs i root_mount) ≡ true → list_any p (drop (i + 1) xs) ≡ false
    → slice_get (reverse (filter p xs)) 0 ≡ Some (slice_index_or xs i root_mount)
last_found p [] i lt is none = absurd (omega (arith, lt))
last_found p (x ∷ xs) zero lt is none = rw (is, none_left p xs none) refl
last_found p (x ∷ xs) (suc i) lt is none =
    let some = some_left p xs (any_at p xs i (omega (arith, lt)) is) in
    last_more (p x) x (filter p xs) some ∙ last_found p xs i (omega (arith, lt)) is
    (rw (drop_more x xs i) at none)

pub remounted : (call : MountCall) (old : MountTable) (at : ℕ) → IsLastAt call.target old.rows
    (Some at) → remount call old ≡ Ok
    (record old {
      rows =
          slice_set old.rows at
          (record (slice_index_or old.rows at root_mount) {
            flags = bit_and call.flags
                shown_flags;
          });
    })
remounted call old at is =
    rw (any_at (is_at call.target) old.rows at is.0 is.1)
    (ap (λ rows. Ok (record old { rows = rows }))
    (changed_at (is_at call.target) _ old.rows at is.0 is.1 is.2))

pub not_remounted : (call : MountCall) (old : MountTable) → IsLastAt call.target old.rows None
    → remount call old ≡ Err EINVAL
not_remounted call old none = rw none refl

pub last_is : (path : List ℕ) (rows : List Mount) (at : ℕ) → IsLastAt path rows (Some at)
    → last_at path rows ≡ Some (slice_index_or rows at root_mount)
last_is path rows at is = last_found (is_at path) rows at is.0 is.1 is.2

pub last_is_none : (path : List ℕ) (rows : List Mount) → IsLastAt path rows None
    → last_at path rows ≡ None
last_is_none path rows none = rw (none_left (is_at path) rows none) refl

pub unmounted_none : (target : List ℕ) (old : MountTable) → IsLastAt target old.rows None
    → umount target old ≡ Err EINVAL
unfolding umount
unmounted_none target old none = rw (umount, last_is_none target old.rows none) refl

pub unmounted_busy : (target : List ℕ) (old : MountTable) (at : ℕ)
    → IsLastAt target old.rows (Some at) →
    (((slice_index_or old.rows at root_mount).id == 1)
    || list_any (is_parent_of (slice_index_or old.rows at root_mount)) old.rows) ≡ true
    → umount target old ≡ Err EBUSY
unfolding umount
unmounted_busy target old at is busy = rw (umount, last_is target old.rows at is, busy) refl

pub unmounted : (target : List ℕ) (old : MountTable) (at : ℕ) → IsLastAt target old.rows (Some at)
    → (((slice_index_or old.rows at root_mount).id == 1)
    || list_any (is_parent_of (slice_index_or old.rows at root_mount)) old.rows) ≡ false
    → umount target old ≡ Ok (record old { rows = take at old.rows ++ drop (at + 1) old.rows })
unfolding umount
unmounted target old at is free =
    rw (umount, last_is target old.rows at is, free)
    (ap (λ rows. Ok (record old { rows = rows }))
    (removed_at (is_at target) old.rows at is.0 is.1 is.2))

-- an element that is there doesn't hang on what stands for one that isn't
pub index_same : (xs : List Mount) (i : ℕ) (d e : Mount) → i < length xs
    → slice_index_or xs i d ≡ slice_index_or xs i e
index_same [] i d e lt = absurd (omega (arith, lt))
index_same (x ∷ xs) zero d e lt = refl
index_same (x ∷ xs) (suc i) d e lt = index_same xs i d e (omega (arith, lt))

pub remounted_as : (call : MountCall) (old : MountTable) (at : ℕ) (row : Mount) (bits : ℕ)
    → IsLastAt call.target old.rows (Some at) → row ≡ slice_index_or old.rows at row
    → bits ≡ bit_and call.flags shown_flags → remount call old ≡ Ok
    (record old { rows = slice_set old.rows at (record row { flags = bits }) })
remounted_as call old at row bits is there shown =
    remounted call old at is
    ∙ ap (λ (r : Mount). Ok (record old {
      rows = slice_set old.rows at (record r { flags = bit_and call.flags shown_flags });
    })) (index_same old.rows at root_mount row is.0 ∙ sym there)
    ∙ ap (λ b. Ok (record old { rows = slice_set old.rows at (record row { flags = b }) }))
    (sym shown)

pub cover_none : (path : List ℕ) (rows : List Mount) → length rows ≡ 0 → 1 ≡ cover_id path rows
unfolding cover_id cover
cover_none path [] none = refl
cover_none path (row ∷ rows) none = absurd (omega (arith, none))

pub not_moved : (source : List ℕ) (call : MountCall) (old : MountTable)
    → IsLastAt source old.rows None → move_mount source call old ≡ Err EINVAL
not_moved source call old none = rw (move_mount, last_is_none source old.rows none) refl

pub move_refused : (source : List ℕ) (call : MountCall) (old : MountTable) (at : ℕ)
    → IsLastAt source old.rows (Some at)
    → (same_path source (codes "/") || path_starts_with call.target source) ≡ true
    → move_mount source call old ≡ Err EINVAL
move_refused source call old at is bad = rw (move_mount, last_is source old.rows at is, bad) refl

pub moved : (source : List ℕ) (call : MountCall) (old : MountTable) (at : ℕ)
    → IsLastAt source old.rows (Some at)
    → (same_path source (codes "/") || path_starts_with call.target source) ≡ false
    → move_mount source call old ≡ Ok (record old {
      rows = relocated source call.target (slice_index_or old.rows at root_mount).id old.rows;
    })
moved source call old at is fine = rw (move_mount, last_is source old.rows at is, fine) refl

neither : (a b : Bool) → a ≡ false → b ≡ false → (a || b) ≡ false
neither a b na nb = rw (na, nb) refl

pub moved_as : (source target : List ℕ) (call : MountCall) (old : MountTable) (at : ℕ)
    (found : Mount) (rows : List Mount) → IsLastAt source old.rows (Some at)
    → call.target ≡ target → same_path source (codes "/") ≡ false
    → path_starts_with target source ≡ false → found ≡ slice_index_or old.rows at found
    → rows ≡ relocated source target found.id old.rows
    → move_mount source call old ≡ Ok (record old { rows = rows })
moved_as source target call old at found rows is to top below there so =
    moved source call old at is (neither _ _ top (ap (λ t. path_starts_with t source) to ∙ below))
    ∙ ap (λ (r : Mount). Ok (record old { rows = relocated source call.target r.id old.rows }))
    (index_same old.rows at root_mount found is.0 ∙ sym there)
    ∙ ap (λ t. Ok (record old { rows = relocated source t found.id old.rows })) to
    ∙ ap (λ r. Ok (record old { rows = r })) (sym so)

-- the same of a table that is seen as another
pub moves_as : (source target : List ℕ) (call : MountCall) (seen old : MountTable) (at : ℕ)
    (found : Mount) (rows : List Mount) → seen ≡ old → IsLastAt source old.rows (Some at)
    → call.target ≡ target → same_path source (codes "/") ≡ false
    → path_starts_with target source ≡ false → found ≡ slice_index_or seen.rows at found
    → rows ≡ relocated source target found.id seen.rows
    → Leaves {A = Unit {0}} (move_mount source call old) old (record seen { rows = rows }) (Ok tt)
moves_as source target call seen old at found rows same is to top below there so = record {
  exactly =
      moved_as source target call old at found rows is to top below
      (there ∙ ap (λ (t : MountTable). slice_index_or t.rows at found) same)
      (so ∙ ap (λ (t : MountTable). relocated source target found.id t.rows) same)
      ∙ ap (λ (t : MountTable). Ok (record t { rows = rows })) (sym same);
}

pub not_moves : (source : List ℕ) (call : MountCall) (seen old : MountTable) → seen ≡ old
    → IsLastAt source seen.rows None → move_mount source call old ≡ Err EINVAL
not_moves source call seen old same none =
    ap (λ (t : MountTable). move_mount source call t) (sym same) ∙ not_moved source call seen none
