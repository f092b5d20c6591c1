-- A printed table is read back row for row.
use Rattle.std.proofs.Common.{◌≡◌, ℕ, ◌+◌, ◌<◌, ◌^◌, List, [], ◌∷◌, ◌++◌, length, Option, Some}
use Rattle.std.proofs.Common.{None, Result, Ok, Err, refl, sym, ap, ◌∙◌, subst, arith}
use Rattle.std.proofs.Common.{append_assoc}
use Rattle.std.specs.Prelude.{codes}
use Rattle.std.specs.List.{AllByRecursion, AllZip, cons_option, filter_map, flat_map, slice_split}
use Rattle.std.proofs.lemmas.List.Elements.{All-weaker, recursion_from_All}
use Rattle.std.proofs.lemmas.List.Splits.{length-slice_split, slice_split_at}
use Rattle.libmount.specs.Items.{Item, Line, item_by, item_of, items, line_feed, lines, numbered}
use Rattle.libmount.specs.MountTables.{Mount, MountTable, print_row, print_table}
use Rattle.libmount.specs.Mounters.{IsGoodRow, IsGoodTable}
use Rattle.libmount.specs.Parts.{is_mark}
use Rattle.libmount.specs.ReadBack.{IsItemOf, IsReadBack}
use Rattle.libmount.specs.Reading.{Message}
use Rattle.libmount.specs.Rows.{Row, row, row_of}
use Rattle.libmount.proofs.LineLemmas.{numbered-more}
use Rattle.libmount.proofs.PrintedFields.{Lacks}
use Rattle.libmount.proofs.PrintedRows.{IsPrintable, absolute_some, row_lacks}
use Rattle.libmount.proofs.PrintedRows.{row_printed, row_shown}

-- a good row is printed so that it can be read
pub good_printable : (table : MountTable) → table.next_id < 2 ^ 64 → table.next_minor < 2 ^ 64
    → (m : Mount) → IsGoodRow table m → IsPrintable m
good_printable table ids minors m good = record {
  id = omega (arith, good.id);
  parent = omega (arith, good.parent);
  minor = omega (arith, good.minor);
  root = absolute_some m.root good.root;
  point = absolute_some m.point good.point;
  flags = good.flags;
  fstype = good.fstype;
  source = good.source;
  super_options = good.super_options;
}

pub good_row_shown : (table : MountTable) (m : Mount) (place : ℕ) → table.next_id < 2 ^ 64
    → table.next_minor < 2 ^ 64 → IsGoodRow table m → IsReadBack m (row (place, print_row m))
good_row_shown table m place ids minors good =
    row_shown m (good_printable table ids minors m good) place

-- ---- lines

abbrev pub printed_rows : List Mount → List ℕ
printed_rows rows = flat_map (λ (m : Mount). print_row m ++ codes "\n") rows

-- the first line of printed rows is the first row
pub first_line : (m : Mount) (rest : List ℕ) → IsPrintable m
    → slice_split (is_mark line_feed) ((print_row m ++ 10 ∷ []) ++ rest)
    ≡ print_row m ∷ slice_split (is_mark line_feed) rest
first_line m rest good =
    let lacks : Lacks line_feed (print_row m) =
    subst (Lacks line_feed) (sym (row_printed m)) (row_lacks 10 (omega arith) refl m good) in
    ap (slice_split (is_mark line_feed)) (append_assoc (print_row m) (10 ∷ []) rest)
    ∙ slice_split_at (is_mark line_feed) (print_row m) line_feed rest lacks.all refl

item_shown : (m : Mount) (rows : List Mount) (line : Line) (more : List Item)
    (read : Result (Option Row) Message) → IsReadBack m read → AllZip IsItemOf rows more
    → AllZip IsItemOf (m ∷ rows) (cons_option (item_by line read) more)
item_shown m rows line more (Ok (Some fields)) h k = (h, k)
item_shown m rows line more (Ok None) h k = absurd h
item_shown m rows line more (Err message) h k = absurd h

nothing_last : (before place : ℕ) → item_of (before, (place, [])) ≡ None
unfolding item_of row row_of
nothing_last before place = refl

rows_shown : (rows : List Mount) → AllByRecursion IsPrintable rows → (before place : ℕ)
    → AllZip IsItemOf rows (filter_map item_of
    (numbered before place (slice_split (is_mark line_feed) (printed_rows rows))))
unfolding item_of
rows_shown [] good before place = rw (nothing_last before place) tt
rows_shown (m ∷ rows) good before place =
    let later : List (List ℕ) = slice_split (is_mark line_feed) (printed_rows rows) in
    let next : ℕ = place + (length (print_row m) + 1) in
    subst (λ (ls : List Line). AllZip IsItemOf (m ∷ rows) (filter_map item_of ls))
    (sym (ap (numbered before place) (first_line m (printed_rows rows) good.0)
    ∙ numbered-more before place (print_row m) later
    (omega (arith, length-slice_split (is_mark line_feed) (printed_rows rows)))))
    (item_shown m rows (before + 1, (place, print_row m))
    (filter_map item_of (numbered (before + 1) next later)) (row (place, print_row m))
    (row_shown m good.0 place) (rows_shown rows good.1 (before + 1) next))

pub table_shown : (table : MountTable) (place : ℕ) → IsGoodTable table
    → AllZip IsItemOf table.rows (items (place, print_table table))
unfolding items lines print_table
table_shown table place good = rows_shown table.rows
    (recursion_from_All IsPrintable table.rows (All-weaker (IsGoodRow table) IsPrintable
    (good_printable table good.next_id good.next_minor) table.rows good.rows)) 0 place
