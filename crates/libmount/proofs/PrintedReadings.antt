-- The fields of a printed row are read one by one.
use Rattle.std.proofs.Common.{◌≡◌, ℕ, ◌+◌, ◌-◌, ◌<◌, ◌^◌, Bool, true, false, cond, List, [], ◌∷◌}
use Rattle.std.proofs.Common.{◌++◌, length, Ok, refl, sym, ap, ◌∙◌, subst, arith, append-nil}
use Rattle.std.specs.Prelude.{◌==◌}
use Rattle.std.specs.Fmt.{decimal}
use Rattle.std.proofs.lemmas.Bool.Decides.{nat_tests}
use Rattle.port_base.specs.Escapes.{is_escaped, octal_digit, escaped}
use Rattle.libmount.specs.Cuts.{Placed, cut, cut_at, dash, is_space, last_of, space}
use Rattle.libmount.specs.Cuts.{without_leading_spaces}
use Rattle.libmount.specs.Escapes.{decoded, has_escape}
use Rattle.libmount.specs.Numbers.{is_digit, number_at, number_field, number_of, digits_value}
use Rattle.libmount.specs.Reading.{field_at}
use Rattle.libmount.specs.Rows.{Text, borrowed, optional_at, owned, text_at, text_bytes, text_of}
use Rattle.libmount.proofs.CutLemmas.{cut-stands}
use Rattle.libmount.proofs.DecimalLaw.{AreDigits, number_of-decimal, spells-decimal}
use Rattle.libmount.proofs.NumberLemmas.{suc-eq-zero}
use Rattle.libmount.proofs.PrintedFields.{Lacks, Lacks-cons, Lacks-nil, cut_at_mark}
use Rattle.libmount.proofs.PrintedFields.{cut_without_mark, escaped_lacks, head_other}
use Rattle.libmount.proofs.PrintedFields.{lacks_by_test}
use Rattle.libmount.proofs.PrintedTexts.{decoded_escaped, decoded_plain}

-- ---- a field

-- there is a first byte, and it is no space
abbrev BeginsField : List ℕ → Type 0
BeginsField [] = ⊥
BeginsField (byte ∷ bytes) = is_space byte ≡ false

-- a part up to a mark, and what follows it
pub record FieldRead (mark : List ℕ) (part : Placed) (front rest : List ℕ) : Type 0 where
  pub at : ℕ
  pub next : ℕ
  pub is : field_at mark part ≡ Ok ((at, front), (next, rest))

trimmed : (byte : ℕ) (bytes : List ℕ) → is_space byte ≡ false
    → without_leading_spaces (byte ∷ bytes) ≡ byte ∷ bytes
trimmed byte bytes h = rw h refl

module _ (mark : List ℕ) (place : ℕ) where
  field_found : (bytes front rest : List ℕ) → BeginsField bytes → cut mark bytes ≡ (front, rest)
      → FieldRead mark (place, bytes) front rest
  unfolding field_at
  field_found [] front rest begins found = absurd begins
  field_found (byte ∷ bytes) front rest begins found =
      let whole : List ℕ = byte ∷ bytes in
      let at : ℕ = place + (length whole - length whole) in
      record {
        at = at;
        next = at + (length whole - length rest);
        is = rw (suc-eq-zero (length bytes))
            (ap (λ (w : List ℕ). Ok (cut_at mark (last_of (place, whole) w)))
            (trimmed byte bytes begins)
            ∙ ap (λ (f : List ℕ × List ℕ). Ok ((at, f.0), last_of (at, whole) f.1)) found);
      }

  begins_field : (text rest : List ℕ) → 0 < length text → Lacks 32 text
      → BeginsField (text ++ rest)
  begins_field [] rest some h = absurd (omega arith)
  begins_field (byte ∷ text) rest some h = head_other 32 byte text h

-- ---- texts

-- a text, and what follows it
pub record TextRead (part : Placed) (text rest : List ℕ) : Type 0 where
  pub field : Text
  pub next : ℕ
  pub is : text_at part ≡ Ok (field, (next, rest))
  pub bytes : text_bytes field ≡ text

by_kind : (k : Bool) (at : ℕ) (field : List ℕ) → has_escape field ≡ k
    → text_bytes (cond k (owned (decoded field)) (borrowed (at, field))) ≡ decoded field
by_kind true at field h = refl
by_kind false at field h = sym (decoded_plain field h)

text_meant : (at : ℕ) (text : List ℕ) → text_bytes (text_of (at, escaped text)) ≡ text
text_meant at text = by_kind (has_escape (escaped text)) at (escaped text) refl
    ∙ decoded_escaped text

text_found : (part : Placed) (text rest : List ℕ) → FieldRead space part (escaped text) rest
    → TextRead part text rest
unfolding text_at
text_found part text rest read = record {
  field = text_of (read.at, escaped text);
  next = read.next;
  is = rw read.is refl;
  bytes = text_meant read.at text;
}

byte_some : (k : Bool) (b : ℕ) (rest : List ℕ)
    → 0 < length (cond k (92 ∷ octal_digit b 64 ∷ octal_digit b 8 ∷ octal_digit b 1 ∷ []) (b ∷ [])
    ++ rest)
byte_some true b rest = omega arith
byte_some false b rest = omega arith

escaped_some : (text : List ℕ) → 0 < length text → 0 < length (escaped text)
unfolding escaped
escaped_some [] some = absurd (omega arith)
escaped_some (b ∷ text) some = byte_some (is_escaped b) b (escaped text)

module _ (place : ℕ) (text : List ℕ) (some : 0 < length text) where
  lacks_space : Lacks 32 (escaped text)
  lacks_space = escaped_lacks 32 (omega arith) refl text

  -- a text with a space behind it
  pub printed_text : (rest : List ℕ) → TextRead (place, escaped text ++ 32 ∷ rest) text rest
  printed_text rest = text_found _ text rest (field_found space place _ (escaped text) rest
      (begins_field space place (escaped text) (32 ∷ rest) (escaped_some text some) lacks_space)
      (cut_at_mark 32 (escaped text) rest lacks_space))

  -- the last text
  pub last_text : TextRead (place, escaped text) text []
  last_text = text_found _ text [] (field_found space place (escaped text) (escaped text) []
      (subst BeginsField (append-nil (escaped text))
      (begins_field space place (escaped text) [] (escaped_some text some) lacks_space))
      (cut_without_mark 32 (escaped text) lacks_space))

-- no optional fields
pub record NothingRead (part : Placed) (rest : List ℕ) : Type 0 where
  pub field : Text
  pub next : ℕ
  pub is : optional_at part ≡ Ok (field, (next, rest))
  pub bytes : text_bytes field ≡ []

nothing_found : (part : Placed) (rest : List ℕ) → FieldRead dash part [] rest
    → NothingRead part rest
unfolding optional_at has_escape
nothing_found part rest read = record {
  field = borrowed (read.at, []);
  next = read.next;
  is = rw read.is refl;
  bytes = refl;
}

pub printed_dash : (place : ℕ) (rest : List ℕ) → NothingRead (place, 45 ∷ 32 ∷ rest) rest
printed_dash place rest = nothing_found _ rest
    (field_found dash place (45 ∷ 32 ∷ rest) [] rest refl
    (cut-stands dash (45 ∷ 32 ∷ rest) (omega arith) refl))

-- ---- numbers

-- a number, and what follows it
pub record NumberRead (part : Placed) (n : ℕ) (rest : List ℕ) : Type 0 where
  pub next : ℕ
  pub is : number_at part ≡ Ok (n, (next, rest))

number_found : (part : Placed) (text rest : List ℕ) (n : ℕ) → FieldRead space part text rest
    → number_of text ≡ Ok n → NumberRead part n rest
unfolding number_at
number_found part text rest n read value = record {
  next = read.next;
  is = rw read.is (rw value refl);
}

-- a number up to another mark
pub record MarkedRead (mark : List ℕ) (part : Placed) (n : ℕ) (rest : List ℕ) : Type 0 where
  pub next : ℕ
  pub is : number_field mark part ≡ Ok (n, (next, rest))

marked_found : (mark : List ℕ) (part : Placed) (text rest : List ℕ) (n : ℕ)
    → FieldRead mark part text rest → ((at : ℕ) → NumberRead (at, text) n [])
    → MarkedRead mark part n rest
unfolding number_field
marked_found mark part text rest n read inner = record {
  next = read.next;
  is = rw read.is (rw (inner read.at).is refl);
}

digit_differs : (d mark : ℕ) → is_digit d ≡ true → is_digit mark ≡ false → (d == mark) ≡ false
digit_differs d mark h other = grind (arith, nat_tests)

digits_lack : (mark : ℕ) (ds : List ℕ) → is_digit mark ≡ false → AreDigits ds → Lacks mark ds
digits_lack mark [] other h = Lacks-nil mark
digits_lack mark (d ∷ ds) other h = Lacks-cons mark d ds (digit_differs d mark h.0 other)
    (digits_lack mark ds other h.1)

module _ (place n : ℕ) (fits : n < 2 ^ 64) where
  pub decimal_lacks : (mark : ℕ) → is_digit mark ≡ false → Lacks mark (decimal n)
  decimal_lacks mark other = digits_lack mark (decimal n) other (spells-decimal n fits).digits

  begins_number : (rest : List ℕ) → BeginsField (decimal n ++ rest)
  begins_number rest = begins_field space place (decimal n) rest (spells-decimal n fits).some
      (decimal_lacks 32 refl)

  -- a number with a space behind it
  number_field_found : (rest : List ℕ)
      → FieldRead space (place, decimal n ++ 32 ∷ rest) (decimal n) rest
  number_field_found rest = field_found space place _ (decimal n) rest (begins_number (32 ∷ rest))
      (cut_at_mark 32 (decimal n) rest (decimal_lacks 32 refl))

  pub printed_number : (rest : List ℕ) → NumberRead (place, decimal n ++ 32 ∷ rest) n rest
  printed_number rest = number_found _ (decimal n) rest n (number_field_found rest)
      (number_of-decimal n fits)

  last_number : NumberRead (place, decimal n) n []
  last_number = number_found _ (decimal n) [] n
      (field_found space place (decimal n) (decimal n) []
      (subst BeginsField (append-nil (decimal n)) (begins_number []))
      (cut_without_mark 32 (decimal n) (decimal_lacks 32 refl)))
      (number_of-decimal n fits)

pub printed_minor : (place n : ℕ) (rest : List ℕ) → n < 2 ^ 64
    → MarkedRead space (place, decimal n ++ 32 ∷ rest) n rest
printed_minor place n rest fits = marked_found space _ (decimal n) rest n
    (number_field_found place n fits rest) (λ at. last_number at n fits)

zero_of : number_of (48 ∷ []) ≡ Ok 0
unfolding number_of digits_value
zero_of = refl

last_zero : (place : ℕ) → NumberRead (place, 48 ∷ []) 0 []
last_zero place = number_found _ (48 ∷ []) [] 0
    (field_found space place (48 ∷ []) (48 ∷ []) [] refl
    (cut_without_mark 32 (48 ∷ []) (lacks_by_test 32 (48 ∷ []) refl)))
    zero_of

pub printed_major : (place : ℕ) (rest : List ℕ)
    → MarkedRead (58 ∷ []) (place, 48 ∷ 58 ∷ rest) 0 rest
printed_major place rest = marked_found (58 ∷ []) _ (48 ∷ []) rest 0
    (field_found (58 ∷ []) place (48 ∷ 58 ∷ rest) (48 ∷ []) rest refl
    (cut_at_mark 58 (48 ∷ []) rest (lacks_by_test 58 (48 ∷ []) refl)))
    last_zero
