-- Decoding undoes the escapes of a printed table.
use Rattle.std.proofs.Common.{◌≡◌, ℕ, ◌+◌, ◌/◌, ◌%◌, ◌<◌, Bool, true, false, cond, List, [], ◌∷◌}
use Rattle.std.proofs.Common.{◌++◌, refl, ap, ◌∙◌, arith}
use Rattle.std.specs.Prelude.{◌==◌}
use Rattle.std.proofs.lemmas.Bool.{or_parts}
use Rattle.std.proofs.lemmas.Bool.Decides.{nat_tests}
use Rattle.port_base.specs.Escapes.{is_escaped, octal_digit, escaped}
use Rattle.libmount.specs.Escapes.{is_octal, is_escape, octal_value, has_escape, decoded}

-- ---- one byte

small : (b : ℕ) → is_escaped b ≡ true → b < 256
small b is = grind (arith, nat_tests)

digit_below : (d : ℕ) → d < 8 → is_octal (48 + d) ≡ true
digit_below d h = grind (arith, nat_tests)

below_eight : (n : ℕ) → n % 8 < 8
below_eight n = omega arith

digit_octal : (n place : ℕ) → is_octal (octal_digit n place) ≡ true
digit_octal n place = digit_below ((n / place) % 8) (below_eight (n / place))

digits_back : (b : ℕ) → b < 256
    → octal_value (octal_digit b 64) (octal_digit b 8) (octal_digit b 1) ≡ b
digits_back b h = omega (arith, h)

escapes : (b : ℕ) → is_escape 92 (octal_digit b 64) (octal_digit b 8) (octal_digit b 1) ≡ true
escapes b = rw (digit_octal b 64, digit_octal b 8, digit_octal b 1) refl

-- an escape at the front
escape_decoded : (b : ℕ) (rest : List ℕ) → is_escaped b ≡ true
    → decoded (92 ∷ octal_digit b 64 ∷ octal_digit b 8 ∷ octal_digit b 1 ∷ rest) ≡ b ∷ decoded rest
unfolding decoded
escape_decoded b rest is = rw (escapes b) (ap (λ n. n ∷ decoded rest) (digits_back b (small b is)))

not_backslash : (b : ℕ) → is_escaped b ≡ false → (b == 92) ≡ false
not_backslash b is = grind (arith, nat_tests)

-- a byte that stands for itself
plain_decoded : (b : ℕ) (rest : List ℕ) → is_escaped b ≡ false
    → decoded (b ∷ rest) ≡ b ∷ decoded rest
unfolding decoded
plain_decoded b [] is = refl
plain_decoded b (x ∷ []) is = refl
plain_decoded b (x ∷ y ∷ []) is = refl
plain_decoded b (x ∷ y ∷ z ∷ rest) is = rw (not_backslash b is) refl

byte_decoded : (k : Bool) (b : ℕ) (rest : List ℕ) → is_escaped b ≡ k
    → decoded (cond k (92 ∷ octal_digit b 64 ∷ octal_digit b 8 ∷ octal_digit b 1 ∷ []) (b ∷ [])
    ++ rest) ≡ b ∷ decoded rest
byte_decoded true b rest is = escape_decoded b rest is
byte_decoded false b rest is = plain_decoded b rest is

-- ---- whole texts

pub decoded_escaped : (text : List ℕ) → decoded (escaped text) ≡ text
unfolding escaped decoded
decoded_escaped [] = refl
decoded_escaped (b ∷ text) = byte_decoded (is_escaped b) b (escaped text) refl
    ∙ ap (λ (l : List ℕ). b ∷ l) (decoded_escaped text)

-- a text without an escape is meant as it stands
pub decoded_plain : (text : List ℕ) → has_escape text ≡ false → decoded text ≡ text
unfolding has_escape decoded
decoded_plain [] h = refl
decoded_plain (a ∷ []) h = refl
decoded_plain (a ∷ b ∷ []) h = refl
decoded_plain (a ∷ b ∷ c ∷ []) h = refl
decoded_plain (a ∷ b ∷ c ∷ d ∷ rest) h =
    let both = or_parts (is_escape a b c d) (has_escape (b ∷ c ∷ d ∷ rest)) h in
    rw both.0 (ap (λ (l : List ℕ). a ∷ l) (decoded_plain (b ∷ c ∷ d ∷ rest) both.1))
