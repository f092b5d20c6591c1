-- The first part of a text and the last.
use Rattle.std.proofs.Common.{◌≡◌, ℕ, ◌+◌, ◌-◌, ◌≤◌, ◌<◌, Bool, true, false, List, [], ◌∷◌, ◌++◌}
use Rattle.std.proofs.Common.{length, take, drop, get_or, Some, None, refl, sym, ap, ◌∙◌, subst}
use Rattle.std.proofs.Common.{arith, cond}
use Rattle.std.specs.Prelude.{position}
use Rattle.std.proofs.lemmas.Bool.Decides.{nat_tests}
use Rattle.std.specs.List.{slice_split, onto_first, after_first}
use Rattle.std.proofs.lemmas.List.{drop_all, drop_more, take-append-drop}
use Rattle.std.proofs.lemmas.List.Splits.{length-slice_split, slice_split_first}
use Rattle.port_base.proofs.PathParts.{before-some, after-some, split-none, past-none, found-some}
use Rattle.libmount.specs.Parts.{is_mark, parts, EndsPart}

module _ (mark : ℕ) (text : List ℕ) where
  pub first-some : (at : ℕ) → position (is_mark mark) text ≡ Some at
      → parts mark (Some text) ≡ take at text
      ∷ parts mark (Some (take (length text - (at + 1)) (drop (at + 1) text)))
  first-some at h =
      slice_split_first (is_mark mark) text 0 (found-some (is_mark mark) text at h).0
      ∙ ap (λ (part : List ℕ). part ∷ slice_split (is_mark mark) (after_first (is_mark mark) text))
      (sym (before-some (is_mark mark) text at h))
      ∙ ap (λ (rest : List ℕ). take at text ∷ slice_split (is_mark mark) rest)
      (sym (after-some (is_mark mark) text at h))

  pub first-none : position (is_mark mark) text ≡ None → parts mark (Some text) ≡ text ∷ []
  first-none h = split-none (is_mark mark) text (past-none (is_mark mark) text h)

onto_first-append : (x : ℕ) (ps qs : List (List ℕ)) → 0 < length ps
    → onto_first x (ps ++ qs) ≡ onto_first x ps ++ qs
onto_first-append x [] qs h = absurd (omega arith)
onto_first-append x (p ∷ ps) qs h = refl

append-step : (b : Bool) (x : ℕ) (ps qs all : List (List ℕ)) → 0 < length ps → all ≡ ps ++ qs
    → cond b ([] ∷ all) (onto_first x all) ≡ cond b ([] ∷ ps) (onto_first x ps) ++ qs
append-step true x ps qs all some h = ap (λ (l : List (List ℕ)). [] ∷ l) h
append-step false x ps qs all some h = ap (onto_first x) h ∙ onto_first-append x ps qs some

-- the parts before a mark, and those after it
split-append : (p : ℕ → Bool) (xs : List ℕ) (y : ℕ) (ys : List ℕ) → p y ≡ true
    → slice_split p (xs ++ y ∷ ys) ≡ slice_split p xs ++ slice_split p ys
split-append p [] y ys h = rw h refl
split-append p (x ∷ xs) y ys h =
    append-step (p x) x (slice_split p xs) (slice_split p ys) (slice_split p (xs ++ y ∷ ys))
    (omega (arith, length-slice_split p xs)) (split-append p xs y ys h)

one-step : (b : Bool) (x : ℕ) (xs : List ℕ) (all : List (List ℕ)) → b ≡ false → all ≡ xs ∷ []
    → cond b ([] ∷ all) (onto_first x all) ≡ (x ∷ xs) ∷ []
one-step true x xs all other h = absurd cc
one-step false x xs all other h = ap (onto_first x) h

-- from this place on there is no mark
pub record IsLast (mark : ℕ) (text : List ℕ) (at : ℕ) : Type 0 where
  pub within : at ≤ length text
  pub one : slice_split (is_mark mark) (drop at text) ≡ drop at text ∷ []

module _ (mark : ℕ) (text : List ℕ) where
  is-mark : (byte : ℕ) → byte ≡ mark → is_mark mark byte ≡ true
  is-mark byte h = grind (arith, nat_tests)

  isnt-mark : (byte : ℕ) → (byte ≡ mark → ⊥) → is_mark mark byte ≡ false
  isnt-mark byte h = grind (arith, nat_tests)

  pub IsLast-end : IsLast mark text (length text)
  IsLast-end = record {
    within = omega arith;
    one =
        rw (drop_all (length text) text (omega arith)) refl;
  }

  pub IsLast-none : (at : ℕ) → at ≡ 0 → IsLast mark text at → EndsPart mark text None
  IsLast-none at e h = subst (λ (n : ℕ). slice_split (is_mark mark) (drop n text) ≡ drop n text
      ∷ []) e h.one

  module _ (at now byte : ℕ) (some : 0 < at) (back : now ≡ at - 1) (read : byte ≡ get_or text now 0)
      (h : IsLast mark text at) where
    at-now : now + 1 ≡ at
    at-now = omega (arith, back)

    here : drop now text ≡ byte ∷ drop at text
    here =
        drop_more text now 0 (omega (arith, back, h.within))
        ∙ ap (λ (b : ℕ). b ∷ drop (now + 1) text) (sym read)
        ∙ ap (λ (n : ℕ). byte ∷ drop n text) at-now

    pub IsLast-more : (byte ≡ mark → ⊥) → IsLast mark text now
    IsLast-more other = record {
      within = omega (arith, back, h.within);
      one = ap (slice_split (is_mark mark)) here
          ∙ one-step (is_mark mark byte) byte (drop at text)
          (slice_split (is_mark mark) (drop at text)) (isnt-mark byte other) h.one
          ∙ ap (λ (l : List ℕ). l ∷ []) (sym here);
    }

    pub IsLast-found : byte ≡ mark → EndsPart mark text (Some now)
    IsLast-found same = (
      omega (arith, back, h.within),
      ap (slice_split (is_mark mark)) (sym (take-append-drop now text)
          ∙ ap (λ (l : List ℕ). take now text ++ l) here)
          ∙ split-append (is_mark mark) (take now text) byte (drop at text) (is-mark byte same)
          ∙ ap (λ (l : List (List ℕ)). slice_split (is_mark mark) (take now text) ++ l)
          (h.one ∙ ap (λ (n : ℕ). drop n text ∷ []) (sym at-now)),
    )
