-- The definitions at examples.
use Rattle.std.proofs.Common.{◌≡◌, ℕ, List, [], ◌∷◌, ◌++◌, ◌^◌, ◌-◌, map, true, false, Some, None}
use Rattle.std.proofs.Common.{Ok, Err, refl}
use Rattle.std.specs.Prelude.{codes}
use Rattle.std.specs.Fmt.{digits}
use Rattle.port_base.specs.Flags.{flag_table}
use Rattle.port_base.specs.Paths.{components, names, same_path}
use Rattle.port_base.specs.Quoting.{quoted, quoted_byte}
use Rattle.libmount.specs.declared.mountinfo.errors.ParseError.TheVariants as parse_error
use Rattle.libmount.specs.declared.mountinfo.errors.RowError.{RowError}
use Rattle.libmount.specs.declared.mountinfo.numbers.NumberFault.TheVariants as number_fault
use Rattle.libmount.specs.declared.errors.RemountError.TheVariants as remount_error
use Rattle.libmount.specs.Cuts.{colon, cut, dash, space, without_leading_spaces}
use Rattle.libmount.specs.Cuts.{without_trailing_spaces}
use Rattle.libmount.specs.ErrorTexts.{parse_error_text, remount_error_text}
use Rattle.libmount.specs.Escapes.{has_escape, decoded}
use Rattle.libmount.specs.Items.{item_of, items, lines}
use Rattle.libmount.specs.Lookup.{flags_in, verdict}
use Rattle.libmount.specs.Numbers.{digits_value, number_at, number_field, number_of}
use Rattle.libmount.specs.Options.{comma, flag_of, flags_of}
use Rattle.libmount.specs.Parts.{parts}
use Rattle.libmount.specs.Reading.{bad_number, field_at}
use Rattle.libmount.specs.Rows.{borrowed, fields_of, optional_at, owned, row, row_of, text_at}
use Rattle.libmount.specs.Rows.{text_of}
use Rattle.libmount.specs.Texts.{shown}
use Rattle.libmount.specs.Worked.{alike_fields, alike_line, all_options, mounted_twice}
use Rattle.libmount.specs.Worked.{option_words, returned_line, short_fields, short_line}
use Rattle.libmount.specs.Worked.{small_table}

pub cut_at_dash : cut dash (codes "shared:1 - ext4 s") ≡ (codes "shared:1 ", codes "ext4 s")
unfolding cut
cut_at_dash = refl

pub cut_nowhere : cut dash (codes "a-b") ≡ (codes "a-b", [])
unfolding cut
cut_nowhere = refl

pub leading : without_leading_spaces (codes "  a b ") ≡ codes "a b "
leading = refl

pub trailing : without_trailing_spaces (codes " a b  ") ≡ codes " a b"
trailing = refl

pub field_there : field_at space (10, codes "  a  b") ≡ Ok ((12, codes "a"), (14, codes " b"))
unfolding field_at cut
field_there = refl

pub field_missing : field_at space (10, []) ≡ Err (codes "Expected more fields")
unfolding field_at cut
field_missing = refl

pub escape_seen : has_escape (codes "/a\\040b") ≡ true
unfolding has_escape decoded
escape_seen = refl

pub escape_not_seen : has_escape (codes "/proc\\1\\08") ≡ false
unfolding has_escape decoded
escape_not_seen = refl

pub escapes_meant : decoded (codes "/a\\040b\\\\134\\08") ≡ codes "/a b\\\\\\08"
unfolding has_escape decoded
escapes_meant = refl

pub escape_of_256 : decoded (codes "\\400") ≡ 0 ∷ []
unfolding has_escape decoded
escape_of_256 = refl

pub text_owned : text_of (10, codes "a\\040b") ≡ owned (codes "a b")
unfolding has_escape decoded text_at optional_at field_at cut
text_owned = refl

pub text_borrowed : text_of (10, codes "a\\4b") ≡ borrowed (10, codes "a\\4b")
unfolding has_escape decoded text_at optional_at field_at cut
text_borrowed = refl

pub text_before_space : text_at (10, codes " /p rw") ≡ Ok
    (borrowed (11, codes "/p"), (14, codes "rw"))
unfolding has_escape decoded text_at optional_at field_at cut
text_before_space = refl

pub optional_before_dash : optional_at (10, codes "shared:12 master:1 - proc") ≡ Ok
    (borrowed (10, codes "shared:12 master:1"), (31, codes "proc"))
unfolding has_escape decoded text_at optional_at field_at cut
optional_before_dash = refl

pub number_plus : number_of (codes "+19") ≡ Ok 19
unfolding number_of digits_value
number_plus = refl

pub number_greatest : number_of (codes "18446744073709551615") ≡ Ok (2 ^ 64 - 1)
unfolding number_of digits_value
number_greatest = refl

pub number_empty : number_of [] ≡ Err number_fault.Empty
unfolding number_of digits_value
number_empty = refl

pub number_lone_plus : number_of (codes "+") ≡ Err number_fault.InvalidDigit
unfolding number_of digits_value
number_lone_plus = refl

pub number_letter : number_of (codes "18446744073709551615x") ≡ Err number_fault.InvalidDigit
unfolding number_of digits_value
number_letter = refl

pub number_large : number_of (codes "18446744073709551616x") ≡ Err number_fault.TooLarge
unfolding number_of digits_value
number_large = refl

pub number_before_space : number_at (10, codes " 76 24") ≡ Ok (76, (14, codes "24"))
unfolding number_at number_field number_of digits_value field_at cut
number_before_space = refl

pub number_before_colon : number_field colon (10, codes "8 7:6") ≡ Ok (8, (14, codes "6"))
unfolding number_at number_field number_of digits_value field_at cut
number_before_colon = refl

pub number_missing : number_field colon (10, codes " :4") ≡ Err (codes "Expected more fields")
unfolding number_at number_field number_of digits_value field_at cut
number_missing = refl

pub told_empty : bad_number [] number_fault.Empty ≡ codes "Cannot parse integer \"\": empty"
unfolding bad_number quoted quoted_byte
told_empty = refl

pub told_digit : bad_number (codes "24b") number_fault.InvalidDigit ≡ codes
    "Cannot parse integer \"24b\": invalid digit"
unfolding bad_number quoted quoted_byte
told_digit = refl

pub told_large : bad_number (codes "9") number_fault.TooLarge ≡ codes
    "Cannot parse integer \"9\": number too large"
unfolding bad_number quoted quoted_byte
told_large = refl

pub parts_there : parts comma (Some (codes "a,,b")) ≡ codes "a" ∷ [] ∷ codes "b" ∷ []
parts_there = refl

pub parts_of_nothing : parts comma None ≡ []
parts_of_nothing = refl

pub flag_each : map flag_of option_words ≡ 1 ∷ 2 ∷ 4 ∷ 8 ∷ 64 ∷ 16 ∷ 128 ∷ 1024 ∷ 2048 ∷ 2097152
    ∷ 16777216 ∷ []
unfolding flag_of flags_of
flag_each = refl

pub flag_unknown : flag_of (codes "rw") ≡ 0
unfolding flag_of flags_of
flag_unknown = refl

pub flags_all : flags_of all_options ≡ 18877663
unfolding flag_of flags_of
flags_all = refl

pub flags_known : map (λ (flag : List ℕ × ℕ). flag.1) flag_table ≡ 1 ∷ 2 ∷ 4 ∷ 8 ∷ 16 ∷ 32 ∷ 64
    ∷ 128 ∷ 1024 ∷ 2048 ∷ 4096 ∷ 8192 ∷ 16384 ∷ 2097152 ∷ 16777216 ∷ []
unfolding flag_of flags_of
flags_known = refl

pub lines_ended : lines (10, codes "ab\nc\n") ≡ (1, (10, codes "ab")) ∷ (2, (13, codes "c"))
    ∷ (2, (15, [])) ∷ []
unfolding lines
lines_ended = refl

pub lines_open : lines (10, codes "ab\nc") ≡ (1, (10, codes "ab")) ∷ (1, (13, codes "c")) ∷ []
unfolding lines
lines_open = refl

pub row_comment : row (0, 9 ∷ codes " # More") ≡ Ok None
unfolding cut has_escape decoded digits_value number_at number_field number_of field_at bad_number
    quoted quoted_byte fields_of optional_at row row_of text_at
row_comment = refl

pub row_return : row (0, 13 ∷ []) ≡ Ok None
unfolding cut has_escape decoded digits_value number_at number_field number_of field_at bad_number
    quoted quoted_byte fields_of optional_at row row_of text_at
row_return = refl

pub row_returned : row (0, returned_line) ≡ Ok (Some (short_fields 0))
unfolding cut has_escape decoded digits_value number_at number_field number_of field_at bad_number
    quoted quoted_byte fields_of optional_at row row_of text_at
row_returned = refl

pub row_alike : row (0, alike_line) ≡ Ok (Some alike_fields)
unfolding cut has_escape decoded digits_value number_at number_field number_of field_at bad_number
    quoted quoted_byte fields_of optional_at row row_of text_at
row_alike = refl

pub row_spaces : row (0, codes "  ") ≡ Err (codes "Cannot parse integer \"\": empty")
unfolding cut has_escape decoded digits_value number_at number_field number_of field_at bad_number
    quoted quoted_byte fields_of optional_at row row_of text_at
row_spaces = refl

pub row_short : row (0, codes "19 24 0:4 / /proc rw,relatime shared:12 - proc proc") ≡ Err
    (codes "Expected more fields")
unfolding cut has_escape decoded digits_value number_at number_field number_of field_at bad_number
    quoted quoted_byte fields_of optional_at row row_of text_at
row_short = refl

pub items_small : items (0, small_table) ≡ Ok (short_fields 7)
    ∷ Err (record {
      message = codes "Cannot parse integer \"bad\": invalid digit";
      number = 2;
      row =
          codes "bad";
    }) ∷ []
unfolding cut has_escape decoded digits_value number_at number_field number_of field_at bad_number
    quoted quoted_byte fields_of optional_at row row_of text_at lines item_of items
items_small = refl

pub flags_last : flags_in (codes "/tmp") mounted_twice ≡ Ok (Some 6)
unfolding cut has_escape decoded digits_value number_at number_field number_of field_at bad_number
    quoted quoted_byte fields_of optional_at row row_of text_at verdict flags_in flag_of flags_of
    same_path components names
flags_last = refl

pub flags_bad_first : flags_in (codes "//tmp/.") (codes "bad\n" ++ mounted_twice) ≡ Ok (Some 6)
unfolding cut has_escape decoded digits_value number_at number_field number_of field_at bad_number
    quoted quoted_byte fields_of optional_at row row_of text_at verdict flags_in flag_of flags_of
    same_path components names
flags_bad_first = refl

pub flags_bad_last : flags_in (codes "/tmp") (mounted_twice ++ codes "bad\n") ≡ Err
    (codes "Cannot parse integer \"bad\": invalid digit")
unfolding cut has_escape decoded digits_value number_at number_field number_of field_at bad_number
    quoted quoted_byte fields_of optional_at row row_of text_at verdict flags_in flag_of flags_of
    same_path components names
flags_bad_last = refl

pub flags_none : flags_in (codes "/") mounted_twice ≡ Ok None
unfolding cut has_escape decoded digits_value number_at number_field number_of field_at bad_number
    quoted quoted_byte fields_of optional_at row row_of text_at verdict flags_in flag_of flags_of
    same_path components names
flags_none = refl

pub shown_bytes : shown (codes "/" ++ 250 ∷ []) ≡ codes "/\\xFA"
unfolding shown
shown_bytes = refl

pub parse_error_printed : (error : RowError) → error.row_num ≡ 12 → error.message.items ≡ codes "m"
    → error.row.items ≡ short_line → parse_error_text (parse_error.Row error) ≡ codes
    "Parse error at line 12: m\n1 2 0:4 / /p ro - t s rw"
unfolding shown digits
parse_error_printed error number message row = rw (number, message, row) refl

pub parse_memory_printed : parse_error_text parse_error.NoMemory ≡ codes "out of memory"
unfolding shown digits
parse_memory_printed = refl

pub remount_memory_printed : remount_error_text remount_error.NoMemory ≡ codes "no memory"
unfolding shown digits
remount_memory_printed = refl
