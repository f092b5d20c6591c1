-- Numbers as text: what `parse` reads, and that they are the texts that `decimal` writes.
use Rattle.std.proofs.Common.{◌≡◌, ℕ, zero, suc, ◌<◌, ◌^◌, Bool, true, false, List, length, get_or}
use Rattle.std.proofs.Common.{Some, None, Ok, Err, Result, refl, sym, ap, ◌∙◌, subst, arith, cond}
use Rattle.std.proofs.Common.{not, rules, ltb-true, eqb-true, eq-eqb, lit<, lt-ltb}
use Rattle.std.proofs.lemmas.Option.{same_Some, none-some}
use Rattle.std.proofs.lemmas.Bool.Decides.{nat_tests}
use Rattle.std.specs.Prelude.{◌&&◌, ◌||◌, nat_lt, slice_index, ◌==◌, ◌↔◌}
use Rattle.std.specs.List.{list_all}
use Rattle.std.specs.Char.{is_ascii_digit}
use Rattle.std.specs.Fmt.{decimal}
use Rattle.std.specs.Result.{OkIff}
use Rattle.std.specs.Str.{IsUtf8}
use Rattle.std.specs.Str.Parse.{digits_value, ParsesUnsigned}
use Rattle.std.proofs.lemmas.Str.Parse.{IsNumeralModel, numerals_by_value, IsDigitsTest}
use Rattle.std.proofs.lemmas.Str.Parse.{parse_digits}
use Rattle.std.proofs.lemmas.Fmt.{IsAscii-from_digits, decimal-digits_value, digits_decimal}
use Rattle.std.proofs.lemmas.Fmt.{digits_value-decimal, decimal_nonempty, first_decimal}
use Rattle.std.proofs.lemmas.Fmt.{decimal_digit}
use Rattle.std.proofs.lemmas.Str.{IsUtf8-from_ascii}
use Rattle.port_base.specs.Decimals.{is_number, number_of, CountsTo}

abbrev AreDigits : List ℕ → Type 0
AreDigits text = list_all is_ascii_digit text ≡ true

digits_test : IsDigitsTest AreDigits
digits_test = search rules

pub digits_model : IsNumeralModel AreDigits (digits_value 10)
digits_model = numerals_by_value AreDigits digits_test

and-first : (a b : Bool) → (a && b) ≡ true → a ≡ true
and-first true b h = refl
and-first false b h = cc

and-second : (a b : Bool) → (a && b) ≡ true → b ≡ true
and-second true b h = h
and-second false b h = cc

numbers-are_digits : (text : List ℕ) → is_number text ≡ true → AreDigits text
numbers-are_digits text h = and-first _ _ (and-second (nat_lt 0 (length text)) _ h)

number_of-value : (text : List ℕ) → is_number text ≡ true
    → number_of text ≡ Some (digits_value 10 text)
unfolding number_of
number_of-value text h = rw h refl

pub number_of-other : (text : List ℕ) → is_number text ≡ false → number_of text ≡ None
unfolding number_of
number_of-other text h = rw h refl

pub IsUtf8-number : (text : List ℕ) → is_number text ≡ true → IsUtf8 text
IsUtf8-number text h = IsUtf8-from_ascii text
    (IsAscii-from_digits text (digits_model.to text (numbers-are_digits text h)))

module _ {E : Type 0} (text digits : List ℕ) (r : Result ℕ E) (same : digits ≡ text)
    (number : is_number text ≡ true) (parsed : ParsesUnsigned 64 10 digits r) where
  by_value : OkIff r ((0 < length text) × (digits_value 10 text < 2 ^ 64)) (digits_value 10 text)
  by_value = parse_digits digits_model 64 text r
      (subst (λ (t : List ℕ). ParsesUnsigned 64 10 t r) same parsed)
      (numbers-are_digits text number)

  pub number_of-parsed : (n : ℕ) → r ≡ Ok n → number_of text ≡ Some n
  number_of-parsed n e = let v = rw e at by_value in number_of-value text number ∙ ap Some (sym v.1)

  pub number_of-large : (e : E) → r ≡ Err e → CountsTo None (number_of text)
  number_of-large e f = λ n lt h.
      let refused = rw f at by_value in
      let v : digits_value 10 text ≡ n = same_Some _ _ (sym (number_of-value text number) ∙ h) in
      refused (ltb-true _ _ (and-first _ _ number), subst (λ m. m < 2 ^ 64) (sym v) lt)

-- ---- the text of a number is the one that `decimal` writes

and-both : (a b : Bool) → a ≡ true → b ≡ true → (a && b) ≡ true
and-both true b h k = k
and-both false b h k = cc

or-first : (a b : Bool) → a ≡ true → (a || b) ≡ true
or-first true b h = refl
or-first false b h = cc

or-second : (a b : Bool) → b ≡ true → (a || b) ≡ true
or-second true b h = refl
or-second false b h = h

-- a first 0 stands alone
alone : (a b : Bool) → (a || not b) ≡ true → b ≡ true → a ≡ true
alone true b h k = refl
alone false true h k = cc
alone false false h k = cc

number_of-some : (b : Bool) (m n : ℕ) → cond b (Some m) None ≡ Some n → (b ≡ true) × (m ≡ n)
number_of-some true m n h = (refl, same_Some _ _ h)
number_of-some false m n h = absurd (none-some n h)

number-decimal : (text : List ℕ) (n : ℕ) → n < 2 ^ 64 → number_of text ≡ Some n → text ≡ decimal n
unfolding number_of
number-decimal text n lt h =
    let e = number_of-some (is_number text) (digits_value 10 text) n h in
    let rest = and-second (nat_lt 0 (length text)) _ e.0 in
    let first : get_or text 0 0 ≡ 48 → length text ≡ 1 =
    λ zero. eqb-true (length text) 1 (alone (length text == 1) (slice_index text 0 == 48)
    (and-second (list_all is_ascii_digit text) _ rest) (eq-eqb (slice_index text 0) 48 zero)) in
    let lt' : digits_value 10 text < 2 ^ 64 = subst (λ m. m < 2 ^ 64) (sym e.1) lt in
    sym (decimal-digits_value digits_model text (numbers-are_digits text e.0)
    (ltb-true _ _ (and-first _ _ e.0)) first lt') ∙ ap decimal e.1

first_of : (n : ℕ) → n < 2 ^ 64 → ((length (decimal n) == 1) || not
    (slice_index (decimal n) 0 == 48)) ≡ true
first_of zero lt = or-first _ _ (ap (λ (t : List ℕ). length t == 1) (decimal_digit 0 (lit< tt)))
first_of (suc n) lt =
    let large : 48 < get_or (decimal (suc n)) 0 0 = first_decimal (suc n) (omega arith) lt in
    or-second (length (decimal (suc n)) == 1) _
    (not_eq (slice_index (decimal (suc n)) 0) large) where
      not_eq : (m : ℕ) → 48 < m → not (m == 48) ≡ true
      not_eq m h = grind (arith, nat_tests)

decimal-number : (n : ℕ) → n < 2 ^ 64 → number_of (decimal n) ≡ Some n
decimal-number n lt =
    let number : is_number (decimal n) ≡ true =
    and-both (nat_lt 0 (length (decimal n))) _
    (lt-ltb 0 (length (decimal n)) (decimal_nonempty n lt))
    (and-both (list_all is_ascii_digit (decimal n)) _ (digits_decimal digits_model n lt)
    (first_of n lt)) in
    number_of-value (decimal n) number ∙ ap Some (digits_value-decimal digits_model n lt)

pub number_of_decimal : (text : List ℕ) (n : ℕ) → n < 2 ^ 64
    → (number_of text ≡ Some n) ↔ (text ≡ decimal n)
number_of_decimal text n lt = (number-decimal text n lt, λ e. ap number_of e ∙ decimal-number n lt)
