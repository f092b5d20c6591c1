-- The options that a printed row shows name its flags.
use Rattle.std.proofs.Common.{◌≡◌, ℕ, zero, suc, ◌*◌, ◌<◌, ◌^◌, Bool, true, false, cond, List}
use Rattle.std.proofs.Common.{[], ◌∷◌, ◌++◌, refl, sym, ap, ◌∙◌, subst, arith, append-nil}
use Rattle.std.specs.Prelude.{◌==◌, codes, filter, max, min}
use Rattle.std.specs.Int.{bit_at}
use Rattle.std.specs.Int.Bits.{or_zero_r}
use Rattle.std.specs.Int.RustNames.{bit_and, bit_or}
use Rattle.std.specs.List.{AllByRecursion, flat_map, fold, list_any, slice_split}
use Rattle.std.proofs.lemmas.Bool.Decides.{nat_tests}
use Rattle.std.proofs.lemmas.List.Splits.{slice_split_at, slice_split_none}
use Rattle.std.proofs.lemmas.Nat.Bits.{and_pow, bit_at-lt, bit_at_and, bit_at_or, same_from_bits}
use Rattle.port_base.specs.Flags.{bits_of}
use Rattle.port_base.specs.declared.flags.TheConstants.MsFlags.{MS_RDONLY}
use Rattle.libmount.specs.BuilderTexts.{Named, is_set}
use Rattle.libmount.specs.MountOptions.{behind_comma, option_names, shown_flags, shown_names}
use Rattle.libmount.specs.Options.{comma, flag_of, flags_of, with_option}
use Rattle.libmount.specs.Parts.{is_mark}
use Rattle.libmount.proofs.PrintedFields.{Lacks, lacks_by_test}

-- ---- bits

spread : (x y z : ℕ) → max (min x y) (min x z) ≡ min x (max y z)
spread x y z = omega arith

and_or : (f a b : ℕ) → bit_or (bit_and f a) (bit_and f b) ≡ bit_and f (bit_or a b)
and_or f a b =
    same_from_bits _ _ (λ i. bit_at_or (bit_and f a) (bit_and f b) i
    ∙ (λ j. max (bit_at_and f a i j) (bit_at_and f b i j))
    ∙ spread (bit_at f i) (bit_at a i) (bit_at b i)
    ∙ sym (bit_at_and f (bit_or a b) i ∙ ap (min (bit_at f i)) (bit_at_or a b i)))

bit_or_nothing : (b p : ℕ) → b < 2 → (b * p == p) ≡ false → b * p ≡ 0
bit_or_nothing zero p h k = omega arith
bit_or_nothing (suc zero) p h k = grind (arith, nat_tests)
bit_or_nothing (suc (suc b)) p h k = absurd (omega arith)

-- one bit is there, or nothing of it
unset : (f k : ℕ) → (bit_and f (2 ^ k) == 2 ^ k) ≡ false → bit_and f (2 ^ k) ≡ 0
unset f k h = and_pow f k ∙ bit_or_nothing (bit_at f k) (2 ^ k) (bit_at-lt f k)
    (subst (λ n. (n == 2 ^ k) ≡ false) (and_pow f k) h)

-- ---- one option

-- the option names the flag, which is one bit
pub record IsShownName (row : Named) : Type 0 where
  pub one : Lacks comma row.name
  pub flag : flag_of row.name ≡ row.flag
  pub place : ℕ
  pub bit : row.flag ≡ 2 ^ place

shown_name : (row : Named) (place : ℕ) → list_any (is_mark comma) row.name ≡ false
    → flag_of row.name ≡ row.flag → row.flag ≡ 2 ^ place → IsShownName row
shown_name row place lacks flag bit = record {
  one = lacks_by_test comma row.name lacks;
  flag = flag;
  place = place;
  bit = bit;
}

pub names_shown : AllByRecursion IsShownName shown_names
unfolding flag_of
names_shown = (
  shown_name _ 1 refl refl refl,
  (
    shown_name _ 2 refl refl refl,
    (
      shown_name _ 3 refl refl refl,
      (
        shown_name _ 4 refl refl refl,
        (
          shown_name _ 7 refl refl refl,
          (
            shown_name _ 6 refl refl refl,
            (
              shown_name _ 10 refl refl refl,
              (
                shown_name _ 11 refl refl refl,
                (
                  shown_name _ 21 refl refl refl,
                  (shown_name _ 24 refl refl refl, tt),
                ),
              ),
            ),
          ),
        ),
      ),
    ),
  ),
)

-- ---- all options

abbrev with_flag : ℕ → Named → ℕ
with_flag flags row = bit_or flags row.flag

-- the flags of these that a number has
abbrev with_part : ℕ → ℕ → Named → ℕ
with_part f flags row = bit_or flags (bit_and f row.flag)

-- the options that follow a first one
abbrev options_behind : ℕ → List ℕ → List Named → List ℕ
options_behind f first rows = first ++ flat_map behind_comma (filter (is_set f) rows)

module _ (f : ℕ) where
  part_of_flag : (k : Bool) (row : Named) → IsShownName row → is_set f row ≡ k
      → bit_and f row.flag ≡ cond k row.flag 0
  part_of_flag true row h is = grind (arith, nat_tests)
  part_of_flag false row h is = ap (bit_and f) h.bit
      ∙ unset f h.place (subst (λ n. (bit_and f n == n) ≡ false) h.bit is)

  module _ (row : Named) (rows : List Named) (named : IsShownName row)
      (later : (first : List ℕ) (flags : ℕ) → Lacks comma first
      → fold with_option flags (slice_split (is_mark comma) (options_behind f first rows))
      ≡ fold (with_part f) (with_option flags first) rows) where
    one_more : (k : Bool) (first : List ℕ) (flags : ℕ) → Lacks comma first → is_set f row ≡ k
        → fold with_option flags (slice_split (is_mark comma) (first
        ++ flat_map behind_comma (cond k (row ∷ filter (is_set f) rows) (filter (is_set f) rows))))
        ≡ fold (with_part f) (with_part f (with_option flags first) row) rows
    one_more true first flags lacks is =
        ap (fold with_option flags) (slice_split_at (is_mark comma) first comma
        (options_behind f row.name rows) lacks.all refl)
        ∙ later row.name (with_option flags first) named.one
        ∙ ap (λ n. fold (with_part f) (bit_or (with_option flags first) n) rows)
        (named.flag ∙ sym (part_of_flag true row named is))
    one_more false first flags lacks is =
        later first flags lacks
        ∙ ap (λ n. fold (with_part f) n rows) (sym (ap (bit_or (with_option flags first))
        (part_of_flag false row named is) ∙ or_zero_r (with_option flags first)))

  options_read : (rows : List Named) → AllByRecursion IsShownName rows → (first : List ℕ)
      (flags : ℕ) → Lacks comma first
      → fold with_option flags (slice_split (is_mark comma) (options_behind f first rows))
      ≡ fold (with_part f) (with_option flags first) rows
  options_read [] h first flags lacks = ap (fold with_option flags)
      (ap (slice_split (is_mark comma)) (append-nil first)
      ∙ slice_split_none (is_mark comma) first lacks.all)
  options_read (row ∷ rows) h first flags lacks = one_more row rows h.0 (options_read rows h.1)
      (is_set f row) first flags lacks refl

  parts_add : (rows : List Named) (flags : ℕ)
      → fold (with_part f) (bit_and f flags) rows ≡ bit_and f (fold with_flag flags rows)
  parts_add [] flags = refl
  parts_add (row ∷ rows) flags = ap (λ n. fold (with_part f) n rows) (and_or f flags row.flag)
      ∙ parts_add rows (with_flag flags row)

  first_read : (k : Bool) → (bit_and f (bits_of MS_RDONLY) == bits_of MS_RDONLY) ≡ k
      → Lacks comma (cond k (codes "ro") (codes "rw"))
      × (with_option 0 (cond k (codes "ro") (codes "rw")) ≡ bit_and f (bits_of MS_RDONLY))
  unfolding flag_of
  first_read true is = (lacks_by_test comma (codes "ro") refl, grind (arith, nat_tests))
  first_read false is = (lacks_by_test comma (codes "rw") refl, sym (unset f 0 is))

  pub flags_of_options : bit_and f shown_flags ≡ f → flags_of (option_names f) ≡ f
  unfolding flags_of option_names
  flags_of_options h =
      let first = first_read (bit_and f (bits_of MS_RDONLY) == bits_of MS_RDONLY) refl in
      options_read shown_names names_shown _ 0 first.0
      ∙ ap (λ n. fold (with_part f) n shown_names) first.1
      ∙ parts_add shown_names (bits_of MS_RDONLY) ∙ h
