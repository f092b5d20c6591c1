-- Looking for a mark from the front of a text.
use Rattle.std.proofs.Common.{◌≡◌, ℕ, ◌+◌, ◌-◌, ◌≤◌, ◌<◌, Bool, true, false, List, [], ◌∷◌, ◌++◌}
use Rattle.std.proofs.Common.{length, take, drop, get_or, refl, sym, ap, ◌∙◌, subst, arith}
use Rattle.std.proofs.Common.{append_assoc, append-nil, nat_eq, take_all}
use Rattle.std.specs.List.{starts_with}
use Rattle.std.proofs.lemmas.List.{drop_all, drop_more, length-drop, take_more, take_rest}
use Rattle.libmount.specs.Cuts.{after_byte, cut, cut_at}

abbrev pub onto : List ℕ → List ℕ × List ℕ → List ℕ × List ℕ
onto front found = (front ++ found.0, found.1)

-- the mark doesn't stand before this place
pub record Looked (mark bytes : List ℕ) (at : ℕ) : Type 0 where
  pub so_far : cut mark bytes ≡ onto (take at bytes) (cut mark (drop at bytes))

-- the bytes from a place on, as a slice has them
abbrev pub from : List ℕ → ℕ → List ℕ
from bytes at = take (length bytes - at) (drop at bytes)

module _ (mark : List ℕ) where
  pub cut-stands : (text : List ℕ) → 0 < length text → starts_with nat_eq text mark ≡ true
      → cut mark text ≡ ([], drop (length mark) text)
  unfolding cut
  cut-stands [] some h = absurd (omega arith)
  cut-stands (byte ∷ bytes) some h = rw h refl

  pub cut-passes : (byte : ℕ) (bytes : List ℕ) → starts_with nat_eq (byte ∷ bytes) mark ≡ false
      → cut mark (byte ∷ bytes) ≡ after_byte byte (cut mark bytes)
  unfolding cut
  cut-passes byte bytes h = rw h refl

module _ (mark bytes : List ℕ) where
  pub Looked-none : Looked mark bytes 0
  Looked-none = record { so_far = refl }

  pub Looked-all : (at : ℕ) → length bytes ≤ at → Looked mark bytes at
      → cut mark bytes ≡ (bytes, [])
  unfolding cut
  Looked-all at past h =
      h.so_far ∙ ap (λ (rest : List ℕ). onto (take at bytes) (cut mark rest))
      (drop_all at bytes past)
      ∙ ap (λ (front : List ℕ). (front, [])) (append-nil (take at bytes) ∙ take_all at bytes past)

module _ (mark bytes : List ℕ) (at : ℕ) (within : at < length bytes) (r : Bool)
    (test : r ≡ starts_with nat_eq (from bytes at) mark) where
  pub Looked-found : r ≡ true → Looked mark bytes at
      → cut mark bytes ≡ (take at bytes, drop (length mark) (drop at bytes))
  Looked-found h so =
      let stands : starts_with nat_eq (drop at bytes) mark ≡ true =
      rw (take_rest bytes at) at (sym test ∙ h) in
      so.so_far ∙ ap (onto (take at bytes)) (cut-stands mark (drop at bytes)
      (omega (arith, length-drop at bytes)) stands)
      ∙ ap (λ (front : List ℕ). (front, drop (length mark) (drop at bytes)))
      (append-nil (take at bytes))

  pub Looked-more : r ≡ false → Looked mark bytes at → Looked mark bytes (at + 1)
  Looked-more h so =
      let next : drop at bytes ≡ get_or bytes at 0 ∷ drop (at + 1) bytes =
      drop_more bytes at 0 within in
      let passes : starts_with nat_eq (get_or bytes at 0 ∷ drop (at + 1) bytes) mark ≡ false =
      subst (λ (t : List ℕ). starts_with nat_eq t mark ≡ false) (take_rest bytes at ∙ next)
      (sym test ∙ h) in
      record {
        so_far = so.so_far ∙ ap (λ (t : List ℕ). onto (take at bytes) (cut mark t)) next
            ∙ ap (onto (take at bytes)) (cut-passes mark (get_or bytes at 0) (drop (at + 1) bytes)
            passes)
            ∙ ap (λ (front : List ℕ). (front, (cut mark (drop (at + 1) bytes)).1))
            (sym (append_assoc (take at bytes) (get_or bytes at 0 ∷ [])
            (cut mark (drop (at + 1) bytes)).0))
            ∙ ap (λ (front : List ℕ). onto front (cut mark (drop (at + 1) bytes)))
            (sym (take_more bytes at 0 within));
      }

-- a cut, with the places of its parts
pub cut-placed : (mark bytes : List ℕ) (a front_place rest_place : ℕ) (front rest : List ℕ)
    → front ≡ (cut mark bytes).0 → rest ≡ (cut mark bytes).1
    → front_place ≡ a → rest_place ≡ a + (length bytes - length rest)
    → ((front_place, front), (rest_place, rest)) ≡ cut_at mark (a, bytes)
cut-placed mark bytes a front_place rest_place front rest f r h k =
    (λ j. ((h j, f j), (k j, rest))) ∙ ap (λ (t : List ℕ).
    ((a, (cut mark bytes).0), (a + (length bytes - length t), t))) r
