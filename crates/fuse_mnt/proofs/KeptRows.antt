-- Rows that change and rows that are added keep a table of mounts good.
use Rattle.std.proofs.Common.{◌≡◌, ◌<◌, ◌≤◌, ◌+◌, ◌^◌, ℕ, Bool, true, false, List, []}
use Rattle.std.proofs.Common.{◌∷◌, ◌++◌, length, Some, None, Option, Result, All}
use Rattle.std.proofs.Common.{sym, refl, arith, codes}
use Rattle.std.specs.Prelude.{filter, if◌then◌else◌, not, ◌==◌, bit_and}
use Rattle.std.specs.List.{fold, list_any}
use Rattle.std.proofs.lemmas.Bool.{false≢true}
use Rattle.std.proofs.lemmas.List.Elements.{All-cons, All-filter, All-head}
use Rattle.std.proofs.lemmas.List.Elements.{All-push, All-tail, All-weaker}
use Rattle.std.proofs.lemmas.Nat.{and_assoc}
use Rattle.port_base.specs.Flags.{bits_of}
use Rattle.port_base.specs.declared.flags.TheConstants.MsFlags.{MS_REC}
use Rattle.libmount.specs.MountOptions.{shown_flags}
use Rattle.libmount.specs.Mounters.{HasRoom, IsGoodRow}
use Rattle.libmount.specs.MountTables.{Mount, MountCall, MountTable, add_row, bind, bound, bound_all}
use Rattle.libmount.specs.MountTables.{bound_row, change_last, copy_row, cover, given, has}
use Rattle.libmount.specs.MountTables.{is_absolute, is_at, is_below, is_empty_text, is_there}
use Rattle.libmount.specs.MountTables.{moved_row, nearer, new_mount, new_row}
use Rattle.libmount.specs.MountTables.{or_default, read_or_write, remount}
use Rattle.libmount.specs.MountTables.{super_options_of}
use Rattle.fuse_mnt.specs.Kept.{HasTop, IsKept, IsKeptIn, IsLater}

pub if_either : {A : Type 0} (Q : A → Type 0) (b : Bool) (x y : A) → (b ≡ true → Q x)
    → (b ≡ false → Q y) → Q (if b then x else y)
if_either Q true x y first second = first refl
if_either Q false x y first second = second refl

pub given_either : (option : Option (List ℕ)) (step : List ℕ → Result MountTable ℕ)
    → ((text : List ℕ) → option ≡ Some text → IsKeptIn (step text)) → IsKeptIn (given option step)
given_either None step some = tt
given_either (Some text) step some = some text refl

-- ---- rows

-- what a row has beside its number and that of its parent
pub record HasTexts (table : MountTable) (row : Mount) : Type 0 where
  pub minor : row.minor < table.next_minor
  pub root : is_absolute row.root ≡ true
  pub point : is_absolute row.point ≡ true
  pub flags : bit_and row.flags shown_flags ≡ row.flags
  pub fstype : 0 < length row.fstype
  pub source : 0 < length row.source
  pub super_options : 0 < length row.super_options

pub good_later : (old new : MountTable) → old.next_id ≤ new.next_id → old.next_minor ≤ new.next_minor
    → (row : Mount) → IsGoodRow old row → IsGoodRow new row
good_later old new ids minors row good = record {
  id = omega (arith, ids, good.id);
  parent = omega (arith, ids, good.parent);
  minor = omega (arith, minors, good.minor);
  root = good.root;
  point = good.point;
  flags = good.flags;
  fstype = good.fstype;
  source = good.source;
  super_options = good.super_options;
}

-- ---- a change of flags

pub changed_all : (P : Mount → Type 0) (test : Mount → Bool) (change : Mount → Mount)
    → ((row : Mount) → P row → P (change row)) → (rows : List Mount) → All P rows
    → All P (change_last test change rows)
changed_all P test change kept [] all = all
changed_all P test change kept (row ∷ rows) all =
    if_either (All P) (list_any test rows) _ _
    (λ some. All-cons P row (change_last test change rows) (All-head P row rows all)
    (changed_all P test change kept rows (All-tail P row rows all)))
    (λ none. if_either (All P) (test row) _ _
    (λ is. All-cons P (change row) rows (kept row (All-head P row rows all)) (All-tail P row rows all))
    (λ isnt. all))

pub changed_top : (test : Mount → Bool) (flags : ℕ) (rows : List Mount) → HasTop rows
    → HasTop (change_last test (λ row. record row { flags = flags }) rows)
changed_top test flags [] top = top
changed_top test flags (row ∷ rows) top =
    if_either HasTop (list_any test rows) _ _
    (λ some. (top.0, changed_all IsLater test _ (λ r later. later) rows top.1))
    (λ none. if_either HasTop (test row) _ _ (λ is. top) (λ isnt. top))

pub shown_twice : (flags : ℕ) → bit_and (bit_and flags shown_flags) shown_flags ≡ bit_and flags shown_flags
shown_twice flags = and_assoc shown_flags flags shown_flags

pub good_flags : (table : MountTable) (flags : ℕ) (row : Mount) → IsGoodRow table row
    → IsGoodRow table (record row { flags = bit_and flags shown_flags })
good_flags table flags row good = record {
  id = good.id;
  parent = good.parent;
  minor = good.minor;
  root = good.root;
  point = good.point;
  flags = shown_twice flags;
  fstype = good.fstype;
  source = good.source;
  super_options = good.super_options;
}

pub remount_kept : (call : MountCall) (table : MountTable) → IsKept table → IsKeptIn (remount call table)
remount_kept call table kept =
    if_either IsKeptIn (list_any (is_at call.target) table.rows) _ _
    (λ some. record {
      top = changed_top (is_at call.target) _ table.rows kept.top;
      rows =
          All-weaker (IsGoodRow table) (IsGoodRow _)
          (good_later table _ (omega arith) (omega arith)) _
          (changed_all (IsGoodRow table) (is_at call.target) _ (good_flags table call.flags)
          table.rows kept.rows);
      first = kept.first;
      next_id = kept.next_id;
      next_minor = kept.next_minor;
    })
    (λ none. tt)

-- ---- rows that are added

pub appended_top : (row : Mount) (rows : List Mount) → IsLater row → HasTop rows
    → HasTop (rows ++ row ∷ [])
appended_top row [] later top = absurd top
appended_top row (first ∷ rows) later top = (top.0, All-push IsLater rows row top.1 later)

pub near_has : (P : Mount → Type 0) (path : List ℕ) (best : Mount) (rows : List Mount) → P best
    → All P rows → P (fold (nearer path) best rows)
near_has P path best [] is all = is
near_has P path best (row ∷ rows) is all =
    near_has P path (nearer path best row) rows
    (if_either P _ row best (λ b. All-head P row rows all) (λ b. is)) (All-tail P row rows all)

pub cover_has : (P : Mount → Type 0) (path : List ℕ) (rows : List Mount) → HasTop rows → All P rows
    → P (cover path rows)
unfolding cover
cover_has P path [] top all = absurd top
cover_has P path (row ∷ rows) top all =
    near_has P path row rows (All-head P row rows all) (All-tail P row rows all)

pub added_kept : (row : Mount) (table : MountTable) → IsKept table → HasTexts table row
    → table.next_id + 1 < 2 ^ 64 → IsKept (add_row row table)
added_kept row table kept texts room = record {
  top = appended_top _ table.rows (omega (arith, kept.first)) kept.top;
  rows =
      All-push (IsGoodRow (add_row row table)) table.rows _
      (All-weaker (IsGoodRow table) (IsGoodRow (add_row row table))
      (good_later table (add_row row table) (omega arith) (omega arith)) table.rows kept.rows)
      (record {
        id = omega arith;
        parent =
            let below : (cover row.point table.rows).id < table.next_id =
            cover_has (λ r. r.id < table.next_id) row.point table.rows kept.top
            (All-weaker (IsGoodRow table) (λ r. r.id < table.next_id) (λ r good. good.id) table.rows
            kept.rows) in
            omega (arith, below);
        minor = texts.minor;
        root = texts.root;
        point = texts.point;
        flags = texts.flags;
        fstype = texts.fstype;
        source = texts.source;
        super_options = texts.super_options;
      });
  first = omega (arith, kept.first);
  next_id = room;
  next_minor = kept.next_minor;
}

pub bound_kept : (source target : List ℕ) (table : MountTable) → IsKept table
    → is_absolute target ≡ true → table.next_id + 1 < 2 ^ 64 → IsKept (bound source target table)
bound_kept source target table kept absolute room =
    let good = cover_has (IsGoodRow table) source table.rows kept.top kept.rows in
    added_kept (bound_row source target table) table kept (record {
      minor = good.minor;
      root = refl;
      point = absolute;
      flags = good.flags;
      fstype = good.fstype;
      source = good.source;
      super_options = good.super_options;
    }) room

pub copied_kept : (source target : List ℕ) (base now : MountTable) (rows : List Mount)
    → All (IsGoodRow base) rows → base.next_minor ≤ now.next_minor → IsKept now
    → now.next_id + length rows < 2 ^ 64 → IsKept (fold (copy_row source target) now rows)
copied_kept source target base now [] all minors kept room = kept
copied_kept source target base now (row ∷ rows) all minors kept room =
    let good = All-head (IsGoodRow base) row rows all in
    copied_kept source target base (copy_row source target now row) rows
    (All-tail (IsGoodRow base) row rows all) minors
    (added_kept (moved_row source target row) now kept (record {
      minor = omega (arith, good.minor, minors);
      root = good.root;
      point = refl;
      flags = good.flags;
      fstype = good.fstype;
      source = good.source;
      super_options = good.super_options;
    }) (omega (arith, room)))
    (omega (arith, room))

pub filter_shorter : (p : Mount → Bool) (xs : List Mount) → length (filter p xs) ≤ length xs
filter_shorter p [] = omega arith
filter_shorter p (x ∷ xs) =
    let less = filter_shorter p xs in
    if_either (λ (ys : List Mount). length ys ≤ length (x ∷ xs)) (p x) _ _
    (λ is. omega (arith, less)) (λ isnt. omega (arith, less))

pub bound_all_kept : (source target : List ℕ) (table : MountTable) → IsKept table
    → is_absolute target ≡ true → HasRoom table → IsKept (bound_all source target table)
bound_all_kept source target table kept absolute room =
    let less = filter_shorter (is_below source) table.rows in
    copied_kept source target table (bound source target table)
    (filter (is_below source) table.rows)
    (All-filter (is_below source) (IsGoodRow table) table.rows kept.rows) (omega arith)
    (bound_kept source target table kept absolute (omega (arith, room.1)))
    (omega (arith, room.1, less))

pub bind_kept : (source : List ℕ) (call : MountCall) (table : MountTable) → IsKept table
    → is_absolute call.target ≡ true → HasRoom table → IsKeptIn (bind source call table)
bind_kept source call table kept absolute room =
    if_either IsKeptIn (not (is_there table source)) _ _ (λ isnt. tt)
    (λ there. if_either IsKeptIn (has call.flags (bits_of MS_REC)) _ _
    (λ all. bound_all_kept source call.target table kept absolute room)
    (λ one. bound_kept source call.target table kept absolute (omega (arith, room.1))))

-- ---- new file systems

pub some_bytes : (text : List ℕ) → (length text == 0) ≡ false → 0 < length text
some_bytes [] is = absurd (false≢true (sym is))
some_bytes (byte ∷ bytes) is = omega arith

pub source_bytes : (source : Option (List ℕ)) → is_empty_text source ≡ false
    → 0 < length (or_default (codes "none") source)
source_bytes None is = omega arith
source_bytes (Some text) is = some_bytes text is

pub some_more : (xs ys : List ℕ) → 0 < length xs → 0 < length (xs ++ ys)
some_more [] ys some = absurd (omega (arith, some))
some_more (x ∷ xs) ys some = omega arith

pub mode_bytes : (flags : ℕ) → 0 < length (read_or_write flags)
mode_bytes flags = if_either (λ (xs : List ℕ). 0 < length xs) (has flags 1) _ _ (λ is. omega arith)
    (λ isnt. omega arith)

pub super_bytes : (flags : ℕ) (options : List ℕ) → 0 < length (super_options_of flags options)
super_bytes flags [] = mode_bytes flags
super_bytes flags (byte ∷ bytes) = some_more (read_or_write flags) _ (mode_bytes flags)

pub new_kept : (fstype : List ℕ) (call : MountCall) (table : MountTable) → IsKept table
    → is_absolute call.target ≡ true → is_empty_text call.source ≡ false
    → is_empty_text (Some fstype) ≡ false → HasRoom table → IsKeptIn (new_mount fstype call table)
new_kept fstype call table kept absolute source some room =
    let next : MountTable = record table { next_minor = table.next_minor + 1 } in
    added_kept (new_row fstype call table) next (record {
      top = kept.top;
      rows =
          All-weaker (IsGoodRow table) (IsGoodRow next) (good_later table next (omega arith) (omega arith))
          table.rows kept.rows;
      first = kept.first;
      next_id = kept.next_id;
      next_minor = omega (arith, room.0);
    }) (record {
      minor = omega arith;
      root = refl;
      point = absolute;
      flags = shown_twice call.flags;
      fstype = some_bytes fstype some;
      source = source_bytes call.source source;
      super_options = super_bytes call.flags (or_default [] call.options);
    }) (omega (arith, room.1))
