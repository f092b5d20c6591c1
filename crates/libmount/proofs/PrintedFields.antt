-- A printed field ends at the space behind it.
use Rattle.std.proofs.Common.{◌≡◌, ℕ, ◌<◌, Bool, true, false, cond, List, [], ◌∷◌, ◌++◌}
use Rattle.std.proofs.Common.{nat_eq, refl, ap, ◌∙◌, arith}
use Rattle.std.specs.Prelude.{◌==◌, All}
use Rattle.std.specs.List.{list_any, starts_with}
use Rattle.std.proofs.lemmas.Bool.{or_parts}
use Rattle.std.proofs.lemmas.Bool.Decides.{nat_tests}
use Rattle.std.proofs.lemmas.List.Elements.{All-append, All-cons, All-head, All-nil, All-tail}
use Rattle.port_base.specs.Escapes.{is_escaped, octal_digit, escaped}
use Rattle.libmount.specs.Cuts.{after_byte, cut}
use Rattle.libmount.specs.Parts.{is_mark}
use Rattle.libmount.proofs.CutLemmas.{cut-passes, cut-stands}

-- ---- bytes that a text hasn't

-- no byte of the text is this one
pub record Lacks (mark : ℕ) (text : List ℕ) : Type 0 where
  pub all : All (λ byte. (byte == mark) ≡ false) text

module _ (mark : ℕ) where
  pub Lacks-nil : Lacks mark []
  Lacks-nil = record { all = All-nil (λ byte. (byte == mark) ≡ false) }

  pub Lacks-cons : (byte : ℕ) (text : List ℕ) → (byte == mark) ≡ false → Lacks mark text
      → Lacks mark (byte ∷ text)
  Lacks-cons byte text h k = record {
    all = All-cons (λ byte. (byte == mark) ≡ false) byte text h k.all;
  }

  pub Lacks-append : (front rest : List ℕ) → Lacks mark front → Lacks mark rest
      → Lacks mark (front ++ rest)
  Lacks-append front rest h k = record {
    all = All-append (λ byte. (byte == mark) ≡ false) front rest h.all k.all;
  }

  pub head_other : (byte : ℕ) (text : List ℕ) → Lacks mark (byte ∷ text) → (byte == mark) ≡ false
  head_other byte text h = All-head (λ byte. (byte == mark) ≡ false) byte text h.all

  tail_lacks : (byte : ℕ) (text : List ℕ) → Lacks mark (byte ∷ text) → Lacks mark text
  tail_lacks byte text h = record {
    all = All-tail (λ byte. (byte == mark) ≡ false) byte text h.all;
  }

pub lacks_by_test : (mark : ℕ) (text : List ℕ) → list_any (is_mark mark) text ≡ false
    → Lacks mark text
lacks_by_test mark [] h = Lacks-nil mark
lacks_by_test mark (byte ∷ text) h =
    let both = or_parts (byte == mark) (list_any (is_mark mark) text) h in
    Lacks-cons mark byte text both.0 (lacks_by_test mark text both.1)

-- ---- a cut at one byte

module _ (mark : ℕ) where
  begins : (byte : ℕ) (bytes : List ℕ) → starts_with nat_eq (byte ∷ bytes) (mark ∷ [])
      ≡ (byte == mark)
  begins byte bytes = grind (arith, nat_tests)

  itself : (mark == mark) ≡ true
  itself = grind (arith, nat_tests)

  -- it ends where the mark stands
  pub cut_at_mark : (text rest : List ℕ) → Lacks mark text
      → cut (mark ∷ []) (text ++ mark ∷ rest) ≡ (text, rest)
  cut_at_mark [] rest h = cut-stands (mark ∷ []) (mark ∷ rest) (omega arith)
      (begins mark rest ∙ itself)
  cut_at_mark (byte ∷ text) rest h =
      cut-passes (mark ∷ []) byte (text ++ mark ∷ rest)
      (begins byte (text ++ mark ∷ rest) ∙ head_other mark byte text h)
      ∙ ap (after_byte byte)
      (cut_at_mark text rest (tail_lacks mark byte text h))

  -- without the mark it has all
  pub cut_without_mark : (text : List ℕ) → Lacks mark text → cut (mark ∷ []) text ≡ (text, [])
  unfolding cut
  cut_without_mark [] h = refl
  cut_without_mark (byte ∷ text) h =
      cut-passes (mark ∷ []) byte text
      (begins byte text ∙ head_other mark byte text h)
      ∙ ap (after_byte byte)
      (cut_without_mark text (tail_lacks mark byte text h))

-- ---- escaped texts

-- an escaped text lacks each byte that is escaped but the backslash
module _ (mark : ℕ) (low : mark < 48) (is : is_escaped mark ≡ true) where
  backslash_other : (92 == mark) ≡ false
  backslash_other = grind (arith, nat_tests)

  digit_other : (n place : ℕ) → (octal_digit n place == mark) ≡ false
  digit_other n place = grind (arith, nat_tests)

  plain_other : (byte : ℕ) → is_escaped byte ≡ false → (byte == mark) ≡ false
  plain_other byte h = grind (arith, nat_tests)

  byte_lacks : (k : Bool) (b : ℕ) → is_escaped b ≡ k
      → Lacks mark (cond k (92 ∷ octal_digit b 64 ∷ octal_digit b 8 ∷ octal_digit b 1 ∷ [])
      (b ∷ []))
  byte_lacks true b h =
      Lacks-cons mark _ _ backslash_other (Lacks-cons mark _ _ (digit_other b 64)
      (Lacks-cons mark _ _ (digit_other b 8) (Lacks-cons mark _ _ (digit_other b 1)
      (Lacks-nil mark))))
  byte_lacks false b h = Lacks-cons mark _ _ (plain_other b h) (Lacks-nil mark)

  pub escaped_lacks : (text : List ℕ) → Lacks mark (escaped text)
  unfolding escaped
  escaped_lacks [] = Lacks-nil mark
  escaped_lacks (b ∷ text) = Lacks-append mark _ _ (byte_lacks (is_escaped b) b refl)
      (escaped_lacks text)

pub printed_field_cut : (text rest : List ℕ) → cut (32 ∷ []) (escaped text ++ 32 ∷ rest)
    ≡ (escaped text, rest)
printed_field_cut text rest = cut_at_mark 32 (escaped text) rest
    (escaped_lacks 32 (omega arith) refl text)
