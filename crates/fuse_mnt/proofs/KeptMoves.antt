-- Rows that go to another place keep a table of mounts good.
use Rattle.std.proofs.Common.{◌≡◌, ◌≢◌, ◌∙◌, ◌<◌, ◌⊎◌, ℕ, Bool, true, false, List, []}
use Rattle.std.proofs.Common.{◌∷◌, ◌++◌, map, Some, None, Ok, Err, Option, IfSome, All}
use Rattle.std.proofs.Common.{ap, sym, refl, subst, arith, inl, inr, ⊎_elim, slice_get, reverse, codes}
use Rattle.std.specs.Prelude.{filter, if◌then◌else◌, not, ◌&&◌, ◌||◌, ◌==◌}
use Rattle.std.specs.List.{fold, list_any}
use Rattle.std.proofs.lemmas.Bool.{false≢true}
use Rattle.std.proofs.lemmas.Bool.Decides.{nat_tests}
use Rattle.std.proofs.lemmas.List.{reverse-append}
use Rattle.std.proofs.lemmas.List.Elements.{All-append, All-cons, All-filter, All-head, All-map, All-nil}
use Rattle.std.proofs.lemmas.List.Elements.{All-tail, All-weaker, filter_passes}
use Rattle.std.proofs.lemmas.Slice.Eq.{bytes_eq-Decides, slice_eq-Decides}
use Rattle.port_base.specs.Paths.{components, path_starts_with, same_path}
use Rattle.port_base.specs.declared.errno.TheConstants.{EINVAL}
use Rattle.libmount.specs.Mounters.{IsGoodRow}
use Rattle.libmount.specs.MountTables.{Mount, MountCall, MountTable}
use Rattle.libmount.specs.MountTables.{is_among, is_at}
use Rattle.libmount.specs.MountTables.{last_at, move_mount, moved_row}
use Rattle.libmount.specs.MountTables.{relocated, stays_among}
use Rattle.libmount.specs.MountTables.{with_child, with_parent}
use Rattle.fuse_mnt.specs.Kept.{HasTop, IsKept, IsKeptIn, IsLater}
use Rattle.fuse_mnt.proofs.KeptRows.{if_either, good_later, cover_has}

-- ---- moves

pub differ : (a b : ℕ) → a ≢ b → (a == b) ≡ false
differ a b ne = grind (arith, nat_tests)

pub equal : (a b : ℕ) → a ≡ b → (a == b) ≡ true
equal a b is = grind (arith, nat_tests)

pub neither : (a b : Bool) → a ≡ false → b ≡ false → (a || b) ≡ false
neither a b first second = rw (first, second) refl

pub either_false : (a b : Bool) → (a || b) ≡ false → (a ≡ false) × (b ≡ false)
either_false true b is = absurd (false≢true (sym is))
either_false false b is = (refl, is)

pub both_true : (a b : Bool) → (a && b) ≡ true → (a ≡ true) × (b ≡ true)
both_true true b is = (refl, is)
both_true false b is = absurd (false≢true is)

-- the number of the root is not among later ones
pub absent : (n : ℕ) (ids : List ℕ) → n ≡ 1 → All (λ id. 1 < id) ids
    → list_any (λ id. id == n) ids ≡ false
absent n [] is all = refl
absent n (id ∷ ids) is all =
    let later : 1 < id = All-head (λ id. 1 < id) id ids all in
    neither (id == n) _ (differ id n (λ e. omega (arith, e, is, later)))
    (absent n ids is (All-tail (λ id. 1 < id) id ids all))

pub children_later : (ids : List ℕ) (rows : List Mount) → All (λ id. 1 < id) ids → All IsLater rows
    → All (λ id. 1 < id) (fold with_child ids rows)
children_later ids [] big all = big
children_later ids (row ∷ rows) big all =
    if_either (λ new. All (λ id. 1 < id) (fold with_child new rows))
    (list_any (λ id. id == row.parent) ids) (row.id ∷ ids) ids
    (λ is. children_later (row.id ∷ ids) rows
    (All-cons (λ id. 1 < id) row.id ids (All-head IsLater row rows all) big)
    (All-tail IsLater row rows all))
    (λ isnt. children_later ids rows big (All-tail IsLater row rows all))

-- the root isn't below a later mount
pub ids_later : (top : ℕ) (rows : List Mount) → 1 < top → HasTop rows
    → All (λ id. 1 < id) (fold with_child (top ∷ []) rows)
ids_later top [] later first = absurd first
ids_later top (row ∷ rows) later first =
    let big = All-cons (λ id. 1 < id) top [] later (All-nil (λ id. 1 < id)) in
    if_either (λ new. All (λ id. 1 < id) (fold with_child new rows))
    (list_any (λ id. id == row.parent) (top ∷ [])) (row.id ∷ top ∷ []) (top ∷ [])
    (λ is. absurd (false≢true (sym (absent row.parent (top ∷ []) first.0.1 big) ∙ is)))
    (λ isnt. children_later (top ∷ []) rows big first.1)

-- rows that stay begin with the root, and those that go are later ones
module _ (ids : List ℕ) (big : All (λ id. 1 < id) ids) where
  stay_top : (rows : List Mount) → HasTop rows → HasTop (filter (stays_among ids) rows)
  stay_top [] top = absurd top
  stay_top (row ∷ rows) top =
      if_either HasTop (stays_among ids row) (row ∷ filter (stays_among ids) rows) _
      (λ is. (top.0, All-filter (stays_among ids) IsLater rows top.1))
      (λ isnt. absurd (false≢true (sym isnt ∙ ap not (absent row.id ids top.0.0 big))))

  go_later : (rows : List Mount) → HasTop rows → All IsLater (filter (is_among ids) rows)
  go_later [] top = absurd top
  go_later (row ∷ rows) top =
      if_either (All IsLater) (is_among ids row) _ (filter (is_among ids) rows)
      (λ is. absurd (false≢true (sym (absent row.id ids top.0.0 big) ∙ is)))
      (λ isnt. All-filter (is_among ids) IsLater rows top.1)

pub parented_all : (P : Mount → Type 0) (parent : ℕ)
    → ((row : Mount) → P row → P (record row { parent = parent })) → (rows : List Mount)
    → All P rows → All P (with_parent parent rows)
parented_all P parent kept [] all = all
parented_all P parent kept (row ∷ rows) all =
    All-cons P _ rows (kept row (All-head P row rows all)) (All-tail P row rows all)

pub joined_top : (rows more : List Mount) → HasTop rows → All IsLater more → HasTop (rows ++ more)
joined_top [] more top later = absurd top
joined_top (row ∷ rows) more top later = (top.0, All-append IsLater rows more top.1 later)

pub relocated_kept : (source target : List ℕ) (top : ℕ) (table : MountTable) → IsKept table → 1 < top
    → IsKept (record table { rows = relocated source target top table.rows })
relocated_kept source target top table kept later =
    let ids : List ℕ = fold with_child (top ∷ []) table.rows in
    let big = ids_later top table.rows later kept.top in
    let others = filter (stays_among ids) table.rows in
    let first = stay_top ids big table.rows kept.top in
    let all = All-filter (stays_among ids) (IsGoodRow table) table.rows kept.rows in
    let below = cover_has (λ r. r.id < table.next_id) target others first
    (All-weaker (IsGoodRow table) (λ r. r.id < table.next_id) (λ r good. good.id) others all) in
    let going = filter (is_among ids) table.rows in
    let moved = map (moved_row source target) going in
    let new : MountTable = record table { rows = relocated source target top table.rows } in
    record {
      top = joined_top others _ first
          (parented_all IsLater _ (λ r is. is) moved
          (All-map IsLater (moved_row source target) going
          (go_later ids big table.rows kept.top)));
      rows = All-weaker (IsGoodRow table) (IsGoodRow new)
          (good_later table new (omega arith) (omega arith)) _
          (All-append (IsGoodRow table) others _ all
          (parented_all (IsGoodRow table) _ (good_parent table _ below) moved
          (All-map (IsGoodRow table) (moved_row source target) going
          (All-weaker (IsGoodRow table) (λ r. IsGoodRow table (moved_row source target r))
          (good_moved table source target) going
          (All-filter (is_among ids) (IsGoodRow table) table.rows kept.rows)))));
      first = kept.first;
      next_id = kept.next_id;
      next_minor = kept.next_minor;
    }
  where
    good_parent : (table : MountTable) (parent : ℕ) → parent < table.next_id → (row : Mount)
        → IsGoodRow table row → IsGoodRow table (record row { parent = parent })
    good_parent table parent below row good = record {
      id = good.id;
      parent = below;
      minor = good.minor;
      root = good.root;
      point = good.point;
      flags = good.flags;
      fstype = good.fstype;
      source = good.source;
      super_options = good.super_options;
    }

    good_moved : (table : MountTable) (source target : List ℕ) (row : Mount)
        → IsGoodRow table row → IsGoodRow table (moved_row source target row)
    good_moved table source target row good = record {
      id = good.id;
      parent = good.parent;
      minor = good.minor;
      root = good.root;
      point = refl;
      flags = good.flags;
      fstype = good.fstype;
      source = good.source;
      super_options = good.super_options;
    }

-- ---- the last mount at a path

pub all_reverse : (P : Mount → Type 0) (xs : List Mount) → All P xs → All P (reverse xs)
all_reverse P [] all = all
all_reverse P (x ∷ xs) all =
    subst (All P) (sym (reverse-append (x ∷ []) xs))
    (All-append P (reverse xs) (x ∷ []) (all_reverse P xs (All-tail P x xs all))
    (All-cons P x [] (All-head P x xs all) (All-nil P)))

pub first_has : (P : Mount → Type 0) (xs : List Mount) → All P xs → IfSome (slice_get xs 0) P
first_has P [] all = tt
first_has P (x ∷ xs) all = All-head P x xs all

pub last_has : (P : Mount → Type 0) (path : List ℕ) (rows : List Mount) (found : Mount) → All P rows
    → last_at path rows ≡ Some found → P found
last_has P path rows found all is =
    subst (λ o. IfSome o P) is (first_has P (reverse (filter (is_at path) rows))
    (all_reverse P (filter (is_at path) rows) (All-filter (is_at path) P rows all)))

pub last_passes : (path : List ℕ) (rows : List Mount) (found : Mount)
    → last_at path rows ≡ Some found → is_at path found ≡ true
last_passes path rows found is =
    subst (λ o. IfSome o (λ r. is_at path r ≡ true)) is
    (first_has (λ r. is_at path r ≡ true) (reverse (filter (is_at path) rows))
    (all_reverse (λ r. is_at path r ≡ true) (filter (is_at path) rows) (filter_passes (is_at path) rows)))

pub same_path_back : (a b : List ℕ) → same_path a b ≡ true → same_path b a ≡ true
unfolding same_path
same_path_back a b is =
    let there = slice_eq-Decides bytes_eq-Decides (components a) (components b) _ refl in
    let back = slice_eq-Decides bytes_eq-Decides (components b) (components a) _ refl in
    back.1 (sym (there.0 is))

pub later_or_top : (rows : List Mount) → HasTop rows
    → All (λ r. (1 < r.id) ⊎ (r.point ≡ codes "/")) rows
later_or_top [] top = absurd top
later_or_top (row ∷ rows) top =
    All-cons (λ r. (1 < r.id) ⊎ (r.point ≡ codes "/")) row rows (inr top.0.2)
    (All-weaker IsLater (λ r. (1 < r.id) ⊎ (r.point ≡ codes "/")) (λ r is. inl is) rows top.1)

-- a mount at another path than the top is a later one
pub found_later : (source : List ℕ) (rows : List Mount) (found : Mount) → HasTop rows
    → last_at source rows ≡ Some found → same_path source (codes "/") ≡ false → 1 < found.id
found_later source rows found top is isnt =
    ⊎_elim (λ later. later)
    (λ point. absurd (false≢true (sym isnt ∙ same_path_back (codes "/") source
    (ap (λ p. same_path p source) (sym point) ∙ last_passes source rows found is))))
    (last_has (λ r. (1 < r.id) ⊎ (r.point ≡ codes "/")) source rows found (later_or_top rows top) is)

pub move_kept : (source : List ℕ) (call : MountCall) (table : MountTable) → IsKept table
    → IsKeptIn (move_mount source call table)
move_kept source call table kept = by (last_at source table.rows) refl
  where
    by : (found : Option Mount) → last_at source table.rows ≡ found
        → IsKeptIn (elim found [
          | None ↦ Err EINVAL
          | Some top ↦ if same_path source (codes "/") || path_starts_with call.target source
              then Err EINVAL
              else Ok (record table { rows = relocated source call.target top.id table.rows })
        ])
    by None is = tt
    by (Some top) is =
        if_either IsKeptIn (same_path source (codes "/") || path_starts_with call.target source) _ _
        (λ refused. tt)
        (λ fine. relocated_kept source call.target top.id table kept
        (found_later source table.rows top kept.top is (either_false _ _ fine).0))
