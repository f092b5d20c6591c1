-- A number is read digit by digit, up to the first fault.
use Rattle.std.proofs.Common.{◌≡◌, ℕ, suc, ◌+◌, ◌≤◌, ◌<◌, ◌^◌, Bool, true, false, List, [], ◌∷◌}
use Rattle.std.proofs.Common.{length, drop, get_or, Result, Ok, Err, refl, sym, ap, ◌∙◌, subst}
use Rattle.std.proofs.Common.{arith, cond, nat_lt, one-add}
use Rattle.std.specs.Prelude.{nat_le, ◌==◌}
use Rattle.std.specs.List.{fold, take_while}
use Rattle.std.proofs.lemmas.Bool.Decides.{nat_tests}
use Rattle.std.proofs.lemmas.List.{drop_all, drop_more}
use Rattle.libmount.specs.declared.mountinfo.numbers.NumberFault.{NumberFault}
use Rattle.libmount.specs.declared.mountinfo.numbers.NumberFault.TheVariants.{Empty, InvalidDigit}
use Rattle.libmount.specs.declared.mountinfo.numbers.NumberFault.TheVariants.{TooLarge}
use Rattle.libmount.specs.Numbers.{is_digit, with_digit, digits_value, Goes}

-- a number of so many of the digits, or its fault
abbrev pub judged : ℕ → ℕ → ℕ → Result ℕ NumberFault
judged number found wanted = cond (nat_le (2 ^ 64) number) (Err TooLarge)
    (cond (nat_lt found wanted) (Err InvalidDigit) (Ok number))

-- what the digits go on to from a number
abbrev pub whole : ℕ → List ℕ → Result ℕ NumberFault
whole number text = judged (fold with_digit number (take_while is_digit text))
    (length (take_while is_digit text)) (length text)

nat_le-no : (a b : ℕ) → b < a → nat_le a b ≡ false
nat_le-no a b h = grind (arith, nat_tests)

nat_le-yes : (a b : ℕ) → a ≤ b → nat_le a b ≡ true
nat_le-yes a b h = grind (arith, nat_tests)

nat_lt-yes : (a b : ℕ) → a < b → nat_lt a b ≡ true
nat_lt-yes a b h = grind (arith, nat_tests)

nat_lt-no : (a b : ℕ) → b ≤ a → nat_lt a b ≡ false
nat_lt-no a b h = grind (arith, nat_tests)

nat_lt-suc : (a b : ℕ) → nat_lt (suc a) (suc b) ≡ nat_lt a b
nat_lt-suc a b = grind (arith, nat_tests)

front-no : (d : ℕ) (ds : List ℕ) → is_digit d ≡ false → take_while is_digit (d ∷ ds) ≡ []
front-no d ds h = rw h refl

pub front-yes : (d : ℕ) (ds : List ℕ) → is_digit d ≡ true → take_while is_digit (d ∷ ds) ≡ d
    ∷ take_while is_digit ds
front-yes d ds h = rw (h, one-add) refl

grows : (number : ℕ) (ds : List ℕ) → number ≤ fold with_digit number ds
grows number [] = omega arith
grows number (d ∷ ds) = omega (arith, grows (with_digit number d) ds)

judged-large : (number found wanted : ℕ) → 2 ^ 64 ≤ number
    → judged number found wanted ≡ Err TooLarge
judged-large number found wanted h = rw (nat_le-yes (2 ^ 64) number h) refl

judged-short : (number found wanted : ℕ) → number < 2 ^ 64 → found < wanted
    → judged number found wanted ≡ Err InvalidDigit
judged-short number found wanted h short = rw
    (nat_le-no (2 ^ 64) number h, nat_lt-yes found wanted short) refl

pub judged-ok : (number found wanted : ℕ) → number < 2 ^ 64 → wanted ≤ found
    → judged number found wanted ≡ Ok number
judged-ok number found wanted h long = rw (nat_le-no (2 ^ 64) number h, nat_lt-no found wanted long)
    refl

judged-suc : (number found wanted : ℕ) → judged number (suc found) (suc wanted) ≡ judged number
    found wanted
judged-suc number found wanted = ap (λ (b : Bool). cond (nat_le (2 ^ 64) number) (Err TooLarge)
    (cond b (Err InvalidDigit) (Ok number))) (nat_lt-suc found wanted)

pub whole-nil : (number : ℕ) → number < 2 ^ 64 → whole number [] ≡ Ok number
whole-nil number h = judged-ok number 0 0 h (omega arith)

module _ (number d : ℕ) (ds : List ℕ) where
  whole-digit : is_digit d ≡ true → whole number (d ∷ ds) ≡ whole (with_digit number d) ds
  whole-digit h =
      ap (λ (front : List ℕ). judged (fold with_digit number front) (length front)
      (suc (length ds))) (front-yes d ds h)
      ∙ judged-suc (fold with_digit (with_digit number d) (take_while is_digit ds))
      (length (take_while is_digit ds)) (length ds)

  pub whole-ok : (more : ℕ) → Goes number d (Ok more) → whole number (d ∷ ds) ≡ whole more ds
  whole-ok more h = whole-digit h.0 ∙ ap (λ (n : ℕ). whole n ds) (sym h.1)

  pub whole-fault : (fault : NumberFault) → number < 2 ^ 64 → Goes number d (Err fault)
      → whole number (d ∷ ds) ≡ Err fault
  whole-fault Empty fits h = absurd h
  whole-fault InvalidDigit fits h =
      ap (λ (front : List ℕ). judged (fold with_digit number front) (length front)
      (suc (length ds))) (front-no d ds h)
      ∙ judged-short number 0 (suc (length ds)) fits (omega arith)
  whole-fault TooLarge fits h =
      whole-digit h.0
      ∙ judged-large (fold with_digit (with_digit number d) (take_while is_digit ds))
      (length (take_while is_digit ds)) (length ds)
      (omega (arith, h.1, grows (with_digit number d) (take_while is_digit ds)))

pub suc-eq-zero : (n : ℕ) → (suc n == 0) ≡ false
suc-eq-zero n = grind (arith, nat_tests)

-- the definition of a number in these words
pub digits_value-whole : (text : List ℕ) → 0 < length text → digits_value text ≡ whole 0 text
unfolding digits_value
digits_value-whole [] h = absurd (omega arith)
digits_value-whole (d ∷ ds) h = rw (suc-eq-zero (length ds)) refl

pub digits_value-nil : digits_value [] ≡ Err InvalidDigit
unfolding digits_value
digits_value-nil = refl

module _ (number i : ℕ) (text : List ℕ) (within : i < length text) where
  pub whole-more : (more d : ℕ) → d ≡ get_or text i 0 → Goes number d (Ok more)
      → whole number (drop i text) ≡ whole more (drop (i + 1) text)
  whole-more more d e h = ap (whole number) (drop_more text i 0 within)
      ∙ whole-ok number (get_or text i 0) (drop (i + 1) text) more
      (subst (λ (b : ℕ). Goes number b (Ok more)) e h)

  pub whole-stop : (fault : NumberFault) (d : ℕ) → d ≡ get_or text i 0 → number < 2 ^ 64
      → Goes number d (Err fault) → whole number (drop i text) ≡ Err fault
  whole-stop fault d e fits h = ap (whole number) (drop_more text i 0 within)
      ∙ whole-fault number (get_or text i 0) (drop (i + 1) text) fault fits
      (subst (λ (b : ℕ). Goes number b (Err fault)) e h)

pub whole-end : (number i : ℕ) (text : List ℕ) → length text ≤ i → number < 2 ^ 64
    → whole number (drop i text) ≡ Ok number
whole-end number i text past fits = ap (whole number) (drop_all i text past) ∙ whole-nil number fits
