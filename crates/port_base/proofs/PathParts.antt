-- The parts of a path between its slashes, taken from the front.
use Rattle.std.proofs.Common.{◌≡◌, ℕ, suc, ◌+◌, ◌-◌, ◌≤◌, ◌<◌, Bool, true, false, List, [], ◌∷◌}
use Rattle.std.proofs.Common.{length, take, drop, Some, None, refl, sym, ap, ◌∙◌, arith, cond}
use Rattle.std.proofs.Common.{ltb-true, ltb-false, inl, inr, take_all}
use Rattle.std.specs.Prelude.{position, filter, not}
use Rattle.std.specs.List.{slice_split, onto_first, position_or_len, before_first, after_first}
use Rattle.std.proofs.lemmas.List.{take_rest, drop_all, length-drop}
use Rattle.std.proofs.lemmas.List.Splits.{slice_split_first}
use Rattle.std.proofs.lemmas.Option.{same_Some}
use Rattle.std.proofs.lemmas.Bool.{cases_lt}
use Rattle.port_base.specs.Paths.{is_slash, is_name, names}

by_some : (b : Bool) (n i : ℕ) → cond b (Some n) None ≡ Some i → (b ≡ true) × (n ≡ i)
by_some true n i h = (refl, same_Some _ _ h)
by_some false n i h = absurd cc

by_none : (b : Bool) (n : ℕ) → cond b (Some n) None ≡ None → b ≡ false
by_none true n h = absurd cc
by_none false n h = refl

module _ (p : ℕ → Bool) (xs : List ℕ) where
  pub before-some : (i : ℕ) → position p xs ≡ Some i → take i xs ≡ before_first p xs
  before-some i h = ap (λ n. take n xs) (sym (by_some _ _ i h).1)

  pub after-some : (i : ℕ) → position p xs ≡ Some i
      → take (length xs - (i + 1)) (drop (i + 1) xs) ≡ after_first p xs
  after-some i h = take_rest xs (i + 1) ∙ ap (λ n. drop (n + 1) xs) (sym (by_some _ _ i h).1)

  pub found-some : (i : ℕ) → position p xs ≡ Some i → (position_or_len p xs < length xs)
      × (position_or_len p xs ≡ i)
  found-some i h = let found = by_some _ _ i h in (ltb-true _ _ found.0, found.1)

  pub past-none : position p xs ≡ None → length xs ≤ position_or_len p xs
  past-none h = ltb-false _ _ (by_none _ _ h)

  pub before-none : position p xs ≡ None → xs ≡ before_first p xs
  before-none h = sym (take_all _ xs (past-none h))

  pub after-none : position p xs ≡ None → take (length xs - length xs) (drop (length xs) xs)
      ≡ after_first p xs
  after-none h = take_rest xs (length xs) ∙ drop_all (length xs) xs (omega arith)
      ∙ sym (drop_all (position_or_len p xs + 1) xs (omega (arith, past-none h)))

pub after-shorter : (xs : List ℕ) → 0 < length xs → length (after_first is_slash xs) < length xs
after-shorter xs h = omega (arith, length-drop (position_or_len is_slash xs + 1) xs)

none-step : (b : Bool) (x n i : ℕ) (xs : List ℕ) (ps : List (List ℕ))
    → suc n ≤ cond (not b) (1 + i) 0 → (n ≤ i → ps ≡ xs ∷ [])
    → cond b ([] ∷ ps) (onto_first x ps) ≡ (x ∷ xs) ∷ []
none-step true x n i xs ps h one = absurd (omega arith)
none-step false x n i xs ps h one = ap (onto_first x) (one (omega arith))

-- where no element passes, there is one part
pub split-none : (p : ℕ → Bool) (xs : List ℕ) → length xs ≤ position_or_len p xs
    → slice_split p xs ≡ xs ∷ []
split-none p [] h = refl
split-none p (x ∷ xs) h = none-step (p x) x (length xs) (position_or_len p xs) xs (slice_split p xs)
    h (split-none p xs)

pub names-nil : names [] ≡ []
unfolding names
names-nil = refl

-- the names of a path are its first part, where that is a name, and those of what follows
pub names-first : (path : List ℕ) → names path ≡ cond (is_name (before_first is_slash path))
    (before_first is_slash path ∷ names (after_first is_slash path))
    (names (after_first is_slash path))
unfolding names
names-first path = elim (cases_lt (position_or_len is_slash path) (length path)) [
  | inl lt ↦ ap (filter is_name) (slice_split_first is_slash path 0 lt)
  | inr le ↦
      ap (filter is_name) (split-none is_slash path le
      ∙ ap (λ (part : List ℕ). part ∷ [])
      (sym (take_all (position_or_len is_slash path) path le)))
      ∙ ap (λ (rest : List ℕ). cond (is_name (before_first is_slash path))
      (before_first is_slash path ∷ names rest) (names rest))
      (sym (drop_all (position_or_len is_slash path + 1) path (omega (arith, le))))
]

-- a first part that is a name is the first of the names
pub names-name : (path part rest : List ℕ) → part ≡ before_first is_slash path
    → rest ≡ after_first is_slash path → is_name part ≡ true → names path ≡ part ∷ names rest
names-name path part rest p r h = rw (p, r) (names-first path ∙ (rw (rw p at h) refl))

-- another first part is passed over
pub names-pass : (path part rest : List ℕ) → part ≡ before_first is_slash path
    → rest ≡ after_first is_slash path → is_name part ≡ false → names path ≡ names rest
names-pass path part rest p r h = rw r (names-first path ∙ (rw (rw p at h) refl))

pub rest-shorter : (path rest : List ℕ) → rest ≡ after_first is_slash path → 0 < length path
    → length rest < length path
rest-shorter path rest r h = rw r (after-shorter path h)
