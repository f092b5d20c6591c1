-- A number's decimal text is read as that number.
use Rattle.std.proofs.Common.{◌≡◌, ℕ, ◌+◌, ◌/◌, ◌%◌, ◌≤◌, ◌<◌, ◌^◌, true, false, List, [], ◌∷◌}
use Rattle.std.proofs.Common.{◌++◌, length, Ok, refl, ap, ◌∙◌, arith, length-append}
use Rattle.std.specs.Prelude.{◌==◌}
use Rattle.std.specs.Fmt.{decimal}
use Rattle.std.specs.List.{fold, take_while}
use Rattle.std.proofs.lemmas.Bool.Decides.{nat_tests}
use Rattle.std.proofs.lemmas.Fmt.{decimal_by_steps}
use Rattle.std.proofs.lemmas.List.Sums.{fold-append}
use Rattle.libmount.specs.Numbers.{decimal_value, digits_value, is_digit, number_of, with_digit}
use Rattle.libmount.proofs.NumberLemmas.{digits_value-whole, front-yes, judged, judged-ok}
use Rattle.libmount.proofs.NumberLemmas.{suc-eq-zero}

abbrev pub AreDigits : List ℕ → Type 0
AreDigits [] = Unit {0}
AreDigits (d ∷ ds) = (is_digit d ≡ true) × AreDigits ds

AreDigits-push : (ds : List ℕ) (d : ℕ) → AreDigits ds → is_digit d ≡ true → AreDigits (ds ++ d ∷ [])
AreDigits-push [] d h digit = (digit, tt)
AreDigits-push (x ∷ ds) d h digit = (h.0, AreDigits-push ds d h.1 digit)

front-all : (ds : List ℕ) → AreDigits ds → take_while is_digit ds ≡ ds
front-all [] h = refl
front-all (d ∷ ds) h = front-yes d ds h.0 ∙ ap (λ (l : List ℕ). d ∷ l) (front-all ds h.1)

-- the text is digits alone, not empty, and its number is n
pub record Spells (n : ℕ) (text : List ℕ) : Type 0 where
  pub digits : AreDigits text
  pub some : 0 < length text
  pub value : decimal_value text ≡ n

digit-below : (d : ℕ) → d < 10 → is_digit (48 + d) ≡ true
digit-below d h = grind (arith, nat_tests)

spells-one : (n : ℕ) → n < 10 → Spells n ((48 + n) ∷ [])
spells-one n h = record { digits = (digit-below n h, tt); some = omega arith; value = omega arith }

spells-more : (n : ℕ) (ds : List ℕ) → 10 ≤ n → Spells (n / 10) ds
    → Spells n (ds ++ ((48 + n % 10) ∷ []))
spells-more n ds h k = record {
  digits = AreDigits-push ds (48 + n % 10) k.digits (digit-below (n % 10) (omega arith));
  some = omega (arith, length-append ds ((48 + n % 10) ∷ []));
  value = fold-append with_digit 0 ds ((48 + n % 10) ∷ [])
      ∙ ap (λ (v : ℕ). with_digit v (48 + n % 10)) k.value ∙ omega arith;
}

pub spells-decimal : (n : ℕ) → n < 2 ^ 64 → Spells n (decimal n)
spells-decimal n h = decimal_by_steps Spells spells-one spells-more n h

module _ (n : ℕ) (fits : n < 2 ^ 64) where
  digits_value-spelled : (text : List ℕ) → Spells n text → digits_value text ≡ Ok n
  digits_value-spelled text h =
      digits_value-whole text h.some
      ∙ ap (λ (front : List ℕ). judged (fold with_digit 0 front) (length front) (length text))
      (front-all text h.digits)
      ∙ judged-ok (decimal_value text) (length text) (length text) (omega (arith, h.value))
      (omega arith)
      ∙ ap (λ (v : ℕ). Ok v) h.value

  no-plus : (d : ℕ) → is_digit d ≡ true → (d == 43) ≡ false
  no-plus d h = grind (arith, nat_tests)

  number_of-spelled : (text : List ℕ) → Spells n text → number_of text ≡ Ok n
  unfolding number_of
  number_of-spelled [] h = absurd (omega (arith, h.some))
  number_of-spelled (d ∷ ds) h = rw (suc-eq-zero (length ds), no-plus d h.digits.0)
      (digits_value-spelled (d ∷ ds) h)

  number_of-plus-spelled : (text : List ℕ) → Spells n text → number_of (43 ∷ text) ≡ Ok n
  unfolding number_of
  number_of-plus-spelled text h = rw (suc-eq-zero (length text)) (digits_value-spelled text h)

pub number_of-decimal : (n : ℕ) → n < 2 ^ 64 → number_of (decimal n) ≡ Ok n
number_of-decimal n fits = number_of-spelled n fits (decimal n) (spells-decimal n fits)

pub number_of-plus : (n : ℕ) → n < 2 ^ 64 → number_of (43 ∷ decimal n) ≡ Ok n
number_of-plus n fits = number_of-plus-spelled n fits (decimal n) (spells-decimal n fits)
