-- What stands before the first line feed is the first of the lines.
use Rattle.std.proofs.Common.{◌≡◌, ℕ, suc, ◌+◌, ◌≤◌, ◌<◌, Bool, true, false, List, [], ◌∷◌, length}
use Rattle.std.proofs.Common.{take, drop, Some, None, refl, ap, ◌∙◌, arith, cond, not, nat_lt}
use Rattle.std.proofs.Common.{ltb-true, ltb-false}
use Rattle.std.specs.declared.option.Option.{Option}
use Rattle.std.specs.Prelude.{◌==◌, option_map}
use Rattle.std.specs.List.{slice_split, position_or_len, onto_first, before_first, after_first}
use Rattle.std.proofs.lemmas.List.Splits.{slice_split_first, length-slice_split}
use Rattle.std.proofs.lemmas.Option.{same_Some}
use Rattle.mount9_run.specs.Texts.{split_once}
use Rattle.mount9_run.specs.Reading.{lines_of, whole_parts}

whole-cons : (x : List ℕ) (ps : List (List ℕ)) → 0 < length ps → whole_parts (x ∷ ps) ≡ x
    ∷ whole_parts ps
whole-cons x [] h = absurd (omega arith)
whole-cons x (p ∷ ps) h = refl

whole-one : (ps : List (List ℕ)) → length ps ≡ 1 → whole_parts ps ≡ []
whole-one [] h = refl
whole-one (p ∷ []) h = refl
whole-one (p ∷ q ∷ ps) h = absurd (omega arith)

abbrev is_feed : ℕ → Bool
is_feed b = b == 10

length-onto_first : (x : ℕ) (ps : List (List ℕ)) → 0 < length ps
    → length (onto_first x ps) ≡ length ps
length-onto_first x [] h = absurd (omega arith)
length-onto_first x (p ∷ ps) h = refl

split-step : (b : Bool) (x : ℕ) (n i : ℕ) (ps : List (List ℕ)) → suc n ≤ cond (not b) (1 + i) 0
    → (n ≤ i → length ps ≡ 1) → length (cond b ([] ∷ ps) (onto_first x ps)) ≡ 1
split-step true x n i ps h one = absurd (omega arith)
split-step false x n i ps h one =
    let here : length ps ≡ 1 = one (omega arith) in
    length-onto_first x ps (omega arith) ∙ here

split-none : (xs : List ℕ) → length xs ≤ position_or_len is_feed xs
    → length (slice_split is_feed xs) ≡ 1
split-none [] h = refl
split-none (x ∷ xs) h = split-step (is_feed x) x (length xs) (position_or_len is_feed xs)
    (slice_split is_feed xs) h (split-none xs)

abbrev split_by : Option ℕ → List ℕ → Option (List ℕ × List ℕ)
split_by o text = option_map (λ i. (take i text, drop (i + 1) text)) o

by_position : (b : Bool) (i : ℕ) (bytes l r : List ℕ)
    → split_by (cond b (Some i) None) bytes ≡ Some (l, r) → (b ≡ true) × (take i bytes ≡ l)
    × (drop (i + 1) bytes ≡ r)
by_position true i bytes l r h = let e = same_Some _ _ h
    in (refl, ap (λ (p : List ℕ × List ℕ). p.0) e, ap (λ (p : List ℕ × List ℕ). p.1) e)
by_position false i bytes l r h = absurd cc

by_none : (b : Bool) (i : ℕ) (bytes : List ℕ) → split_by (cond b (Some i) None) bytes ≡ None
    → b ≡ false
by_none true i bytes h = absurd cc
by_none false i bytes h = refl

pub lines_of-some : (bytes l r : List ℕ) → split_once 10 bytes ≡ Some (l, r) → lines_of bytes ≡ l
    ∷ lines_of r
unfolding split_once lines_of
lines_of-some bytes l r h =
    let p = by_position (nat_lt (position_or_len is_feed bytes) (length bytes))
    (position_or_len is_feed bytes) bytes l r h in
    ap whole_parts (slice_split_first is_feed bytes 0 (ltb-true _ _ p.0))
    ∙ whole-cons (before_first is_feed bytes) (slice_split is_feed (after_first is_feed bytes))
    (omega (arith, length-slice_split is_feed (after_first is_feed bytes)))
    ∙ (rw (p.1, p.2) refl)

pub lines_of-none : (bytes : List ℕ) → split_once 10 bytes ≡ None → lines_of bytes ≡ []
unfolding split_once lines_of
lines_of-none bytes h =
    let p = by_none (nat_lt (position_or_len is_feed bytes) (length bytes))
    (position_or_len is_feed bytes) bytes h in
    whole-one (slice_split is_feed bytes) (split-none bytes (ltb-false _ _ p))
