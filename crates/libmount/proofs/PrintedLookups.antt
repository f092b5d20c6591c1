-- The flags of a path in a printed table are those of the last mount there.
use Rattle.std.proofs.Common.{◌≡◌, ℕ, Bool, true, false, cond, List, [], ◌∷◌, ◌++◌, Option, Some}
use Rattle.std.proofs.Common.{None, Result, Ok, Err, refl, sym, ap, ◌∙◌, map, reverse, append-nil}
use Rattle.std.specs.Prelude.{filter, slice_get}
use Rattle.std.specs.List.{AllByRecursion, cons_option, filter_map, slice_split}
use Rattle.std.specs.Option.{option_map}
use Rattle.std.proofs.lemmas.List.{map-append, reverse-append}
use Rattle.std.proofs.lemmas.List.Elements.{All-weaker, filter_map-append, recursion_from_All}
use Rattle.port_base.specs.Flags.{bits_of}
use Rattle.port_base.specs.declared.flags.MsFlags.{MsFlags}
use Rattle.libmount.specs.declared.errors.RemountError.{RemountError}
use Rattle.libmount.specs.declared.errors.RemountError.TheVariants.{Io as NotRead}
use Rattle.libmount.specs.declared.errors.RemountError.TheVariants.{NoMemory as NoRemountMemory}
use Rattle.libmount.specs.declared.errors.RemountError.TheVariants.{ParseMountInfo}
use Rattle.libmount.specs.declared.errors.RemountError.TheVariants.{UnknownMountPoint}
use Rattle.libmount.specs.Items.{line_feed}
use Rattle.libmount.specs.Lookup.{flags_in, or_none, verdict, verdict_by}
use Rattle.libmount.specs.MountTables.{Mount, MountTable, is_at, print_row, print_table}
use Rattle.libmount.specs.Mounters.{Calls, IsGoodRow, IsGoodTable}
use Rattle.libmount.specs.Mountings.{FlagsBy, TellsFlags}
use Rattle.libmount.specs.Parts.{is_mark}
use Rattle.libmount.specs.ReadBack.{IsReadBack, flags_of_last}
use Rattle.libmount.specs.Reading.{Message}
use Rattle.libmount.specs.Rows.{Row, row, row_of}
use Rattle.libmount.specs.Views.{GivesFlags}
use Rattle.libmount.proofs.PrintedRows.{IsPrintable, row_shown}
use Rattle.libmount.proofs.PrintedTables.{first_line, good_printable, printed_rows}

-- ---- from the end

reversed_cons : {X : Type 0} (x : X) (xs : List X) → reverse (x ∷ xs) ≡ reverse xs ++ x ∷ []
reversed_cons x xs = reverse-append (x ∷ []) xs

module _ {X Y : Type 0} (f : X → Option Y) where
  cons_reversed : (found : Option Y) (ys : List Y) → reverse ys ++ cons_option found []
      ≡ reverse (cons_option found ys)
  cons_reversed None ys = append-nil (reverse ys)
  cons_reversed (Some y) ys = sym (reversed_cons y ys)

  filter_map_reverse : (xs : List X) → filter_map f (reverse xs) ≡ reverse (filter_map f xs)
  filter_map_reverse [] = refl
  filter_map_reverse (x ∷ xs) =
      ap (filter_map f) (reversed_cons x xs) ∙ filter_map-append f (reverse xs) (x ∷ [])
      ∙ ap (λ (l : List Y). l ++ cons_option (f x) []) (filter_map_reverse xs)
      ∙ cons_reversed (f x) (filter_map f xs)

map_reversed : {X Y : Type 0} (f : X → Y) (xs : List X) → reverse (map f xs) ≡ map f (reverse xs)
map_reversed f [] = refl
map_reversed f (x ∷ xs) =
    reversed_cons (f x) (map f xs) ∙ ap (λ l. l ++ f x ∷ []) (map_reversed f xs)
    ∙ sym (ap (map f) (reversed_cons x xs) ∙ map-append f (reverse xs) (x ∷ []))

-- ---- what a printed row says

abbrev says : Mount → Result ℕ Message
says m = Ok m.flags

first_says : (ms : List Mount) → or_none (slice_get (map says ms) 0)
    ≡ Ok (option_map (λ (m : Mount). m.flags) (slice_get ms 0))
first_says [] = refl
first_says (m ∷ ms) = refl

module _ (path : List ℕ) where
  row_says : (m : Mount) (read : Result (Option Row) Message) → IsReadBack m read
      → verdict_by path read ≡ option_map Ok (cond (is_at path m) (Some m.flags) None)
  row_says m (Ok (Some r)) h =
      ap (λ (n : Mount). option_map Ok (cond (is_at path n) (Some n.flags) None)) h.mount
  row_says m (Ok None) h = absurd h
  row_says m (Err message) h = absurd h

  one_says : (k : Bool) (m : Mount) (ms : List Mount)
      → cons_option (option_map Ok (cond k (Some m.flags) None)) (map says ms)
      ≡ map says (cond k (m ∷ ms) ms)
  one_says true m ms = refl
  one_says false m ms = refl

  no_say : verdict path [] ≡ None
  unfolding verdict row row_of
  no_say = refl

  rows_say : (rows : List Mount) → AllByRecursion IsPrintable rows
      → filter_map (verdict path) (slice_split (is_mark line_feed) (printed_rows rows))
      ≡ map says (filter (is_at path) rows)
  unfolding verdict
  rows_say [] good = ap (λ (found : Option (Result ℕ Message)). cons_option found []) no_say
  rows_say (m ∷ rows) good =
      ap (filter_map (verdict path)) (first_line m (printed_rows rows) good.0)
      ∙ (λ j. cons_option (row_says m (row (0, print_row m)) (row_shown m good.0 0) j)
      (rows_say rows good.1 j))
      ∙ one_says (is_at path m) m (filter (is_at path) rows)

  rows_found : (rows : List Mount) → AllByRecursion IsPrintable rows
      → or_none (slice_get (filter_map (verdict path)
      (reverse (slice_split (is_mark line_feed) (printed_rows rows)))) 0)
      ≡ Ok (flags_of_last path rows)
  rows_found rows good =
      ap (λ (l : List (Result ℕ Message)). or_none (slice_get l 0))
      (filter_map_reverse (verdict path) (slice_split (is_mark line_feed) (printed_rows rows))
      ∙ ap reverse (rows_say rows good) ∙ map_reversed says (filter (is_at path) rows))
      ∙ first_says (reverse (filter (is_at path) rows))

pub last_flags : (table : MountTable) (path : List ℕ) → IsGoodTable table
    → flags_in path (print_table table) ≡ Ok (flags_of_last path table.rows)
unfolding flags_in print_table
last_flags table path good = rows_found path table.rows
    (recursion_from_All IsPrintable table.rows (All-weaker (IsGoodRow table) IsPrintable
    (good_printable table good.next_id good.next_minor) table.rows good.rows))

-- ---- what is read back

same_flags : (all : Result (Option ℕ) Message) (told found : Option ℕ) → all ≡ Ok told
    → all ≡ Ok found → told ≡ found
same_flags all told found a b = cc

never_refused : (all : Result (Option ℕ) Message) (told : Option ℕ) (message : Message)
    → all ≡ Ok told → all ≡ Err message → ⊥
never_refused all told message a b = cc

flags_by : (all : Result (Option ℕ) Message) (told : Option ℕ)
    (result : Result (Option MsFlags) RemountError) (old new : Calls) → all ≡ Ok told
    → GivesFlags result all → new ≡ old → FlagsBy told result old new
flags_by all told (Ok found) old new is gives kept =
    (same_flags all told (option_map bits_of found) is gives, kept)
flags_by all told (Err (ParseMountInfo message)) old new is gives kept =
    never_refused all told message.items is gives
flags_by all told (Err NoRemountMemory) old new is gives kept = kept
flags_by all told (Err (NotRead cause)) old new is gives kept = absurd gives
flags_by all told (Err (UnknownMountPoint place)) old new is gives kept = absurd gives

-- the flags that a good table's text gives a path
pub tells_flags : (table : MountTable) (path text : List ℕ)
    (result : Result (Option MsFlags) RemountError) (old new : Calls) → IsGoodTable table
    → text ≡ print_table table → GivesFlags result (flags_in path text) → new ≡ old
    → TellsFlags (flags_of_last path table.rows) result old new
tells_flags table path text result old new good printed gives kept = record {
  flags = flags_by (flags_in path text) (flags_of_last path table.rows) result old new
      (ap (flags_in path) printed ∙ last_flags table path good) gives kept;
}
