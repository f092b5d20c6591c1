-- A text is cut at the first place where the mark stands.
use Rattle.std.proofs.Common.{◌≡◌, ℕ, zero, suc, Bool, true, false, List, [], ◌∷◌, ◌++◌, length}
use Rattle.std.proofs.Common.{take, drop, refl, sym, ap, ◌∙◌, arith, cond, inl, inr, ⊎_elim, nat_eq}
use Rattle.std.specs.List.{starts_with}
use Rattle.std.proofs.lemmas.List.{take-append-drop}
use Rattle.std.proofs.lemmas.Slice.Eq.{bytes_eq-Decides}
use Rattle.libmount.specs.Cuts.{after_byte, cut}
use Rattle.libmount.specs.CutLaws.{EndsAtMark, HasNoMark, IsCut, StandsNotBefore}

module _ (mark : List ℕ) where
  -- where the mark stands at the front, the text is the mark and what follows it
  begins : (bytes : List ℕ) → starts_with nat_eq bytes mark ≡ true → bytes ≡ mark
      ++ drop (length mark) bytes
  begins bytes h = sym (take-append-drop (length mark) bytes)
      ∙ ap (λ (front : List ℕ). front ++ drop (length mark) bytes)
      (sym ((bytes_eq-Decides mark (take (length mark) bytes)).0 h))

  before-more : (byte : ℕ) (bytes : List ℕ) (end : ℕ)
      → starts_with nat_eq (byte ∷ bytes) mark ≡ false → StandsNotBefore mark bytes end
      → StandsNotBefore mark (byte ∷ bytes) (suc end)
  before-more byte bytes end here h zero lt = here
  before-more byte bytes end here h (suc at) lt = h at (omega arith)

  goes-on : (byte : ℕ) (bytes : List ℕ) (found : List ℕ × List ℕ)
      → starts_with nat_eq (byte ∷ bytes) mark ≡ false → IsCut mark bytes found
      → IsCut mark (byte ∷ bytes) (after_byte byte found)
  goes-on byte bytes found here h = ⊎_elim
      (λ (e : EndsAtMark mark bytes found.0 found.1). inl
      (record {
        whole = ap (λ (l : List ℕ). byte ∷ l) e.whole;
        first =
            before-more byte bytes (length found.0) here e.first;
      }))
      (λ (n : HasNoMark mark bytes found.0 found.1). inr
      (record {
        all = ap (λ (l : List ℕ). byte ∷ l) n.all;
        none = n.none;
        nowhere =
            before-more byte bytes (length bytes) here n.nowhere;
      }))
      h

  step : (b : Bool) (byte : ℕ) (bytes : List ℕ) (found : List ℕ × List ℕ)
      → starts_with nat_eq (byte ∷ bytes) mark ≡ b → IsCut mark bytes found
      → IsCut mark (byte ∷ bytes) (cond b ([], drop (length mark) (byte ∷ bytes))
      (after_byte byte found))
  step true byte bytes found here h = inl (record
      { whole = begins (byte ∷ bytes) here; first = λ at lt. absurd (omega arith) })
  step false byte bytes found here h = goes-on byte bytes found here h

  pub cut-is : (bytes : List ℕ) → IsCut mark bytes (cut mark bytes)
  unfolding cut
  cut-is [] = inr (record { all = refl; none = refl; nowhere = λ at lt. absurd (omega arith) })
  cut-is (byte ∷ bytes) = step (starts_with nat_eq (byte ∷ bytes) mark) byte bytes (cut mark bytes)
      refl (cut-is bytes)
