-- A printed row is read back as the mount that was printed.
use Rattle.std.proofs.Common.{◌≡◌, ℕ, ◌-◌, ◌≤◌, ◌<◌, ◌^◌, Bool, true, false, cond, List, [], ◌∷◌}
use Rattle.std.proofs.Common.{◌++◌, length, Ok, refl, ap, ◌∙◌, arith, append_assoc}
use Rattle.std.specs.Prelude.{◌==◌, bit_and, codes}
use Rattle.std.specs.Fmt.{decimal}
use Rattle.std.specs.Str.Lines.{strip_carriage_return}
use Rattle.std.proofs.lemmas.Bool.Decides.{nat_tests}
use Rattle.port_base.specs.Escapes.{escaped, is_escaped}
use Rattle.libmount.specs.Cuts.{Placed, colon, space}
use Rattle.libmount.specs.MountOptions.{option_names, shown_flags}
use Rattle.libmount.specs.MountTables.{Mount, is_absolute, print_row}
use Rattle.libmount.specs.Numbers.{is_digit, number_at, number_field}
use Rattle.libmount.specs.Options.{flags_of}
use Rattle.libmount.specs.ReadBack.{IsReadBack, Shows}
use Rattle.libmount.specs.Rows.{Row, Text, fields_of, is_blank, is_skipped, optional_at}
use Rattle.libmount.specs.Rows.{row, row_of, text_at}
use Rattle.libmount.proofs.DecimalLaw.{AreDigits, spells-decimal}
use Rattle.libmount.proofs.NumberLemmas.{suc-eq-zero}
use Rattle.libmount.proofs.PrintedFields.{Lacks, Lacks-append, Lacks-cons}
use Rattle.libmount.proofs.PrintedFields.{escaped_lacks}
use Rattle.libmount.proofs.PrintedFlags.{flags_of_options}
use Rattle.libmount.proofs.PrintedReadings.{decimal_lacks, last_text, printed_dash, printed_major}
use Rattle.libmount.proofs.PrintedReadings.{printed_minor, printed_number, printed_text}

-- ---- fields in a row

-- eleven readings, each from where the one before ended
fields_chain : (part : Placed) (id parent major minor : ℕ × Placed)
    (root point options optional fstype source super : Text × Placed) → number_at part ≡ Ok id
    → number_at id.1 ≡ Ok parent → number_field colon parent.1 ≡ Ok major
    → number_field space major.1 ≡ Ok minor → text_at minor.1 ≡ Ok root → text_at root.1 ≡ Ok point
    → text_at point.1 ≡ Ok options → optional_at options.1 ≡ Ok optional
    → text_at optional.1 ≡ Ok fstype → text_at fstype.1 ≡ Ok source → text_at source.1 ≡ Ok super
    → fields_of part ≡ Ok (record {
      mount_id = id.0;
      parent_id = parent.0;
      major = major.0;
      minor = minor.0;
      root = root.0;
      mount_point = point.0;
      mount_options = options.0;
      optional_fields = optional.0;
      fstype = fstype.0;
      mount_source = source.0;
      super_options = super.0;
    })
unfolding fields_of
fields_chain part id parent major minor root point options optional fstype source super e0 e1 e2 e3
    e4 e5 e6 e7 e8 e9 e10 = rw (e0, e1, e2, e3, e4, e5, e6, e7, e8, e9, e10) refl

-- ---- a printed row from a field on

abbrev from_source : Mount → List ℕ
from_source m = escaped m.source ++ 32 ∷ escaped m.super_options

abbrev from_fstype : Mount → List ℕ
from_fstype m = escaped m.fstype ++ 32 ∷ from_source m

abbrev from_dash : Mount → List ℕ
from_dash m = 45 ∷ 32 ∷ from_fstype m

abbrev from_options : Mount → List ℕ
from_options m = escaped (option_names m.flags) ++ 32 ∷ from_dash m

abbrev from_point : Mount → List ℕ
from_point m = escaped m.point ++ 32 ∷ from_options m

abbrev from_root : Mount → List ℕ
from_root m = escaped m.root ++ 32 ∷ from_point m

abbrev from_minor : Mount → List ℕ
from_minor m = decimal m.minor ++ 32 ∷ from_root m

abbrev from_major : Mount → List ℕ
from_major m = 48 ∷ 58 ∷ from_minor m

abbrev from_parent : Mount → List ℕ
from_parent m = decimal m.parent ++ 32 ∷ from_major m

abbrev whole_row : Mount → List ℕ
whole_row m = decimal m.id ++ 32 ∷ from_parent m

three_fields : (a b c rest : List ℕ)
    → ((a ++ 32 ∷ []) ++ ((b ++ 32 ∷ []) ++ ((c ++ 32 ∷ []) ++ []))) ++ rest
    ≡ a ++ 32 ∷ (b ++ 32 ∷ (c ++ 32 ∷ rest))
three_fields a b c rest = simp append_assoc

two_fields : (a b rest : List ℕ) → ((a ++ 32 ∷ []) ++ ((b ++ 32 ∷ []) ++ [])) ++ rest
    ≡ a ++ 32 ∷ (b ++ 32 ∷ rest)
two_fields a b rest = simp append_assoc

pub row_printed : (m : Mount) → print_row m ≡ whole_row m
unfolding print_row
row_printed m =
    ap (λ (rest : List ℕ). decimal m.id ++ 32 ∷ (decimal m.parent ++ 32 ∷ 48 ∷ 58
    ∷ (decimal m.minor ++ 32 ∷ rest)))
    (three_fields (escaped m.root) (escaped m.point) (escaped (option_names m.flags)) _
    ∙ ap (λ (rest : List ℕ). escaped m.root ++ 32 ∷ (escaped m.point
    ++ 32 ∷ (escaped (option_names m.flags) ++ 32 ∷ 45 ∷ 32 ∷ rest)))
    (two_fields (escaped m.fstype) (escaped m.source) (escaped m.super_options)))

-- ---- the fields of a printed row

options_begin : (k : Bool) (rest : List ℕ) → 0 < length (cond k (codes "ro") (codes "rw") ++ rest)
options_begin true rest = omega arith
options_begin false rest = omega arith

options_some : (flags : ℕ) → 0 < length (option_names flags)
unfolding option_names
options_some flags = options_begin _ _

pub absolute_some : (path : List ℕ) → is_absolute path ≡ true → 0 < length path
absolute_some [] h = absurd cc
absolute_some (byte ∷ path) h = omega arith

-- the row's texts are there, and its numbers fit
pub record IsPrintable (m : Mount) : Type 0 where
  pub id : m.id < 2 ^ 64
  pub parent : m.parent < 2 ^ 64
  pub minor : m.minor < 2 ^ 64
  pub root : 0 < length m.root
  pub point : 0 < length m.point
  pub flags : bit_and m.flags shown_flags ≡ m.flags
  pub fstype : 0 < length m.fstype
  pub source : 0 < length m.source
  pub super_options : 0 < length m.super_options

module _ (m : Mount) (good : IsPrintable m) where
  fields_shown : (place : ℕ) → (fields : Row) × (fields_of (place, whole_row m) ≡ Ok fields)
      × Shows m fields
  fields_shown place =
      let r0 = printed_number place m.id good.id (from_parent m) in
      let r1 = printed_number r0.next m.parent good.parent (from_major m) in
      let r2 = printed_major r1.next (from_minor m) in
      let r3 = printed_minor r2.next m.minor (from_root m) good.minor in
      let r4 = printed_text r3.next m.root good.root (from_point m) in
      let r5 = printed_text r4.next m.point good.point (from_options m) in
      let r6 = printed_text r5.next (option_names m.flags) (options_some m.flags) (from_dash m) in
      let r7 = printed_dash r6.next (from_fstype m) in
      let r8 = printed_text r7.next m.fstype good.fstype (from_source m) in
      let r9 = printed_text r8.next m.source good.source (escaped m.super_options) in
      let r10 = last_text r9.next m.super_options good.super_options in (
        _,
        fields_chain (place, whole_row m) _ _ _ _ _ _ _ _ _ _ _ r0.is r1.is r2.is r3.is r4.is r5.is
            r6.is r7.is r8.is r9.is r10.is,
        record {
          mount = λ j. record {
            id = m.id;
            parent = m.parent;
            minor = m.minor;
            root = r4.bytes j;
            point = r5.bytes j;
            flags = (ap flags_of r6.bytes ∙ flags_of_options m.flags good.flags) j;
            fstype = r8.bytes j;
            source = r9.bytes j;
            super_options = r10.bytes j;
          };
          major = refl;
          optional_fields = r7.bytes;
        },
      )

-- ---- the line

-- a text without a carriage return stays as it is
not_stripped : (text : List ℕ) → Lacks 13 text → strip_carriage_return text ≡ text
not_stripped [] h = refl
not_stripped (byte ∷ text) h = rw (h.all (length (byte ∷ text) - 1) 0 (omega arith)) refl

digit_shown : (d : ℕ) → is_digit d ≡ true → (is_blank d ≡ false) × ((d == 35) ≡ false)
digit_shown d h = (grind (arith, nat_tests), grind (arith, nat_tests))

not_skipped : (digits rest : List ℕ) → 0 < length digits → AreDigits digits
    → is_skipped (digits ++ rest) ≡ false
not_skipped [] rest some h = absurd (omega arith)
not_skipped (d ∷ digits) rest some h =
    let first = digit_shown d h.0 in
    rw (suc-eq-zero (length (digits ++ rest))) (rw first.0 first.1)

module _ (mark : ℕ) (low : mark < 32) (is : is_escaped mark ≡ true) where
  other : (byte : ℕ) → 32 ≤ byte → (byte == mark) ≡ false
  other byte h = grind (arith, nat_tests)

  no_digit : is_digit mark ≡ false
  no_digit = grind (arith, nat_tests)

  spaced_lacks : (text rest : List ℕ) → Lacks mark text → Lacks mark rest
      → Lacks mark (text ++ 32 ∷ rest)
  spaced_lacks text rest h k = Lacks-append mark text (32 ∷ rest) h
      (Lacks-cons mark 32 rest (other 32 (omega arith)) k)

  escaped_spaced : (text rest : List ℕ) → Lacks mark rest → Lacks mark (escaped text ++ 32 ∷ rest)
  escaped_spaced text rest h = spaced_lacks (escaped text) rest
      (escaped_lacks mark (omega arith) is text) h

  decimal_spaced : (n : ℕ) (rest : List ℕ) → n < 2 ^ 64 → Lacks mark rest
      → Lacks mark (decimal n ++ 32 ∷ rest)
  decimal_spaced n rest fits h = spaced_lacks (decimal n) rest
      (decimal_lacks 0 n fits mark no_digit)
      h

  -- a printed row has no line feed and no carriage return
  pub row_lacks : (m : Mount) → IsPrintable m → Lacks mark (whole_row m)
  row_lacks m good =
      decimal_spaced m.id (from_parent m) good.id
      (decimal_spaced m.parent (from_major m) good.parent
      (Lacks-cons mark 48 (58 ∷ from_minor m) (other 48 (omega arith))
      (Lacks-cons mark 58 (from_minor m) (other 58 (omega arith))
      (decimal_spaced m.minor (from_root m) good.minor (escaped_spaced m.root (from_point m)
      (escaped_spaced m.point (from_options m)
      (escaped_spaced (option_names m.flags) (from_dash m)
      (Lacks-cons mark 45 (32 ∷ from_fstype m) (other 45 (omega arith))
      (Lacks-cons mark 32 (from_fstype m) (other 32 (omega arith))
      (escaped_spaced m.fstype (from_source m) (escaped_spaced m.source (escaped m.super_options)
      (escaped_lacks mark (omega arith) is m.super_options))))))))))))

pub row_shown : (m : Mount) → IsPrintable m → (place : ℕ) → IsReadBack m (row (place, print_row m))
unfolding row row_of
row_shown m good place =
    let read = fields_shown m good place in
    let digits = spells-decimal m.id good.id in
    rw (row_printed m) (rw (not_stripped (whole_row m) (row_lacks 13 (omega arith) refl m good))
    (rw (not_skipped (decimal m.id) (32 ∷ from_parent m) digits.some digits.digits)
    (rw read.1 read.2)))
