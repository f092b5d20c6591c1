-- Escapes are found and decoded from the front of a text.
use Rattle.std.proofs.Common.{◌≡◌, ℕ, ◌+◌, ◌-◌, ◌≤◌, ◌<◌, true, false, List, [], ◌∷◌, ◌++◌, length}
use Rattle.std.proofs.Common.{take, drop, get_or, refl, sym, ap, ◌∙◌, arith}
use Rattle.std.specs.Prelude.{slice_index}
use Rattle.std.proofs.lemmas.List.{append_assoc, drop-drop, length-drop, take_rest}
use Rattle.libmount.specs.Escapes.{has_escape, octal_value, starts_with_escape, decoded}

-- the bytes from a place on, as a slice has them
abbrev pub from : List ℕ → ℕ → List ℕ
from text at = take (length text - at) (drop at text)

first-escape : (text : List ℕ) → 4 ≤ length text → starts_with_escape text ≡ true
    → decoded text ≡ octal_value (slice_index text 1) (slice_index text 2) (slice_index text 3)
    ∷ decoded (drop 4 text)
unfolding decoded
first-escape [] long h = absurd (omega arith)
first-escape (a ∷ []) long h = absurd (omega arith)
first-escape (a ∷ b ∷ []) long h = absurd (omega arith)
first-escape (a ∷ b ∷ c ∷ []) long h = absurd (omega arith)
first-escape (a ∷ b ∷ c ∷ d ∷ rest) long h = rw h refl

first-plain : (text : List ℕ) → 0 < length text → starts_with_escape text ≡ false
    → decoded text ≡ get_or text 0 0 ∷ decoded (drop 1 text)
unfolding decoded
first-plain [] some h = absurd (omega arith)
first-plain (a ∷ []) some h = refl
first-plain (a ∷ b ∷ []) some h = refl
first-plain (a ∷ b ∷ c ∷ []) some h = refl
first-plain (a ∷ b ∷ c ∷ d ∷ rest) some h = rw h refl

has-here : (text : List ℕ) → 4 ≤ length text → starts_with_escape text ≡ true
    → has_escape text ≡ true
unfolding has_escape
has-here [] long h = absurd (omega arith)
has-here (a ∷ []) long h = absurd (omega arith)
has-here (a ∷ b ∷ []) long h = absurd (omega arith)
has-here (a ∷ b ∷ c ∷ []) long h = absurd (omega arith)
has-here (a ∷ b ∷ c ∷ d ∷ rest) long h = rw h refl

has-on : (text : List ℕ) → starts_with_escape text ≡ false
    → has_escape text ≡ has_escape (drop 1 text)
unfolding has_escape
has-on [] h = refl
has-on (a ∷ []) h = refl
has-on (a ∷ b ∷ []) h = refl
has-on (a ∷ b ∷ c ∷ []) h = refl
has-on (a ∷ b ∷ c ∷ d ∷ rest) h = rw h refl

pub has-nil : has_escape [] ≡ false
unfolding has_escape
has-nil = refl

pub decoded-nil : decoded [] ≡ []
unfolding decoded
decoded-nil = refl

module _ (text : List ℕ) where
  pub takes-escape : 4 ≤ length text → starts_with_escape text ≡ true
      → (decoded text ≡ octal_value (slice_index text 1) (slice_index text 2) (slice_index text 3)
      ∷ decoded (from text 4)) × (length (from text 4) < length text)
  takes-escape long h = (
    rw (take_rest text 4) (first-escape text long h),
    rw (take_rest text 4) (omega (arith, length-drop 4 text)),
  )

  pub takes-plain : 0 < length text → starts_with_escape text ≡ false
      → (decoded text ≡ get_or text 0 0 ∷ decoded (from text 1))
      × (length (from text 1) < length text)
  takes-plain some h = (
    rw (take_rest text 1) (first-plain text some h),
    rw (take_rest text 1) (omega (arith, length-drop 1 text)),
  )

module _ (text : List ℕ) (at : ℕ) where
  pub has-found : 4 ≤ length (from text at) → starts_with_escape (from text at) ≡ true
      → has_escape (drop at text) ≡ true
  has-found long h = rw (← take_rest text at) (has-here (from text at) long h)

  pub has-more : starts_with_escape (from text at) ≡ false
      → has_escape (drop at text) ≡ has_escape (drop (at + 1) text)
  has-more h = has-on (drop at text) (rw (take_rest text at) at h)
      ∙ ap has_escape (drop-drop 1 at text)

-- one byte more of a text
pub decoded-more : (out : List ℕ) (byte : ℕ) (whole rest after : List ℕ) → out
    ++ decoded rest ≡ whole → decoded rest ≡ byte ∷ decoded after → (out ++ byte ∷ [])
    ++ decoded after ≡ whole
decoded-more out byte whole rest after h e = append_assoc out (byte ∷ []) (decoded after)
    ∙ ap (λ (t : List ℕ). out ++ t) (sym e) ∙ h
