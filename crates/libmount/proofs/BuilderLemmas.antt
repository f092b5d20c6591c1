-- Texts with a mark between them grow by one.
use Rattle.std.proofs.Common.{◌≡◌, ◌∙◌, ◌<◌, ◌+◌, ℕ, List, [], ◌∷◌, ◌++◌, Bool, true, false, Option}
use Rattle.std.proofs.Common.{Some, None, map, take, length, slice_index_or, sym, ap, refl, arith}
use Rattle.std.proofs.Common.{rules}
use Rattle.std.specs.Prelude.{filter}
use Rattle.std.specs.List.{filter_map, flat_map, join_by, IsFirstAndRest}
use Rattle.std.proofs.lemmas.List.{append-nil, flat_map_more, map-append, take_more}
use Rattle.std.proofs.lemmas.List.Elements.{filter-append, filter_map-append}
use Rattle.std.proofs.lemmas.List.Folds.{flat_map-map}
use Rattle.std.proofs.lemmas.Grind.{common_steps}
use Rattle.std.proofs.lemmas.Str.{encodes-IsAscii}
use Rattle.std.proofs.Math.Utf8.{encodes}

-- the mark, where a text stands before it
abbrev pub between : {X A : Type 0} → List A → List X → List A
between mark [] = []
between mark (x ∷ xs) = mark

join_push : {X A : Type 0} (f : X → List A) (mark : List A) (xs : List X) (x : X)
    → join_by f mark (xs ++ x ∷ []) ≡ join_by f mark xs ++ (between mark xs ++ f x)
join_push f mark [] x = grind (arith, common_steps)
join_push f mark (y ∷ ys) x = sym (flat_map_more (λ z. mark ++ f z) (f y) ys x)

between_push : {X A : Type 0} (mark : List A) (xs : List X) (x : X)
    → between mark (xs ++ x ∷ []) ≡ mark
between_push mark [] x = refl
between_push mark (y ∷ ys) x = refl

-- a list that grew by one
join_more : {X A : Type 0} (f : X → List A) (mark : List A) (xs ys : List X) (x : X) → ys ≡ xs ++ x
    ∷ [] → join_by f mark ys ≡ join_by f mark xs ++ (between mark xs ++ f x)
join_more f mark xs ys x e = rw e (join_push f mark xs x)

-- what is written with what stands before it
pub join_written : {X A : Type 0} (f : X → List A) (mark before : List A) (xs ys : List X) (x : X)
    → before ≡ between mark xs → ys ≡ xs ++ x ∷ [] →
    join_by f mark xs ++ (before ++ f x) ≡ join_by f mark ys
join_written f mark before xs ys x is e = rw is (sym (join_more f mark xs ys x e))

pub between_more : {X A : Type 0} (mark : List A) (xs ys : List X) (x : X) → ys ≡ xs ++ x ∷ []
    → between mark ys ≡ mark
between_more mark xs ys x e = rw e (between_push mark xs x)

-- the values that are given among the first of a list
pub given_more : {X : Type 0} (xs : List (Option X)) (i : ℕ) (x : X) → i < length xs
    → slice_index_or xs i None ≡ Some x →
    filter_map (λ y. y) (take (i + 1) xs) ≡ filter_map (λ y. y) (take i xs) ++ x ∷ []
given_more xs i x h e = rw (take_more xs i None h, e)
    (filter_map-append (λ y. y) (take i xs) (Some x ∷ []))

pub given_same : {X : Type 0} (xs : List (Option X)) (i : ℕ) → i < length xs
    → slice_index_or xs i None ≡ None →
    filter_map (λ y. y) (take (i + 1) xs) ≡ filter_map (λ y. y) (take i xs)
given_same xs i h e = rw (take_more xs i None h, e)
    (filter_map-append (λ y. y) (take i xs) (None ∷ []) ∙ append-nil _)

-- those that pass a test among the first of a list
pub passing_more : {X Y : Type 0} (p : Y → Bool) (v : X → Y) (xs : List X) (i : ℕ) (d : X)
    → i < length xs → p (v (slice_index_or xs i d)) ≡ true →
    filter p (map v (take (i + 1) xs)) ≡ filter p (map v (take i xs)) ++ v (slice_index_or xs i d)
    ∷ []
passing_more p v xs i d h e =
    rw (
      take_more xs i d h,
      map-append v (take i xs) (slice_index_or xs i d ∷ []),
      filter-append p
          (map v (take i xs)) (v (slice_index_or xs i d) ∷ []),
      e,
    ) refl

pub passing_same : {X Y : Type 0} (p : Y → Bool) (v : X → Y) (xs : List X) (i : ℕ) (d : X)
    → i < length xs → p (v (slice_index_or xs i d)) ≡ false →
    filter p (map v (take (i + 1) xs)) ≡ filter p (map v (take i xs))
passing_same p v xs i d h e =
    rw (
      take_more xs i d h,
      map-append v (take i xs) (slice_index_or xs i d ∷ []),
      filter-append p
          (map v (take i xs)) (v (slice_index_or xs i d) ∷ []),
      e,
    ) (append-nil _)

pub join_words : {X Y A : Type 0} (f : Y → List A) (v : X → Y) (mark : List A) (all : List X)
    (x : X) (xs : List X) → IsFirstAndRest all x xs →
    join_by f mark (map v all) ≡ f (v x) ++ flat_map (λ y. mark ++ f (v y)) xs
join_words f v mark all x xs is = rw (is.0) (ap (λ rest. f (v x) ++ rest)
    (flat_map-map (λ z. mark ++ f z) v xs))

pub comma_is_text : encodes (44 ∷ []) ≡ 44 ∷ []
comma_is_text = encodes-IsAscii (44 ∷ []) (search rules)
