-- One word more, in the loop over words and in the law on their order.
use Rattle.std.proofs.Common.{◌≡◌, ℕ, zero, suc, ◌+◌, ◌≤◌, ◌<◌, List, [], ◌∷◌, length, drop, Some}
use Rattle.std.proofs.Common.{None, refl, arith, add-one}
use Rattle.std.specs.Prelude.{slice_get}
use Rattle.std.specs.declared.option.Option.{Option}
use Rattle.std.proofs.lemmas.List.{drop_all}
use Rattle.mount9_run.specs.CommandViews.{Refuses}
use Rattle.mount9_run.specs.declared.command.WordsError.{WordsError}
use Rattle.mount9_run.specs.declared.command.WordsError.TheVariants.{Words, NoMemory}
use Rattle.mount9_run.specs.Command.{Draft, with_word, with_words}

pub drop-get : {A : Type 0} (xs : List A) (i : ℕ) (x : A) → slice_get xs i ≡ Some x → drop i xs ≡ x
    ∷ drop (suc i) xs
drop-get [] i x h = cc
drop-get (y ∷ ys) zero x h = cc
drop-get (y ∷ ys) (suc i) x h = drop-get ys i x h

module _ (d : Draft) (ws : List (List ℕ)) (i : ℕ) (w : List ℕ)
    (here : slice_get ws i ≡ Some w) where
  pub with_words-more : (e : Draft) → with_word d w ≡ Some e
      → with_words d (drop i ws) ≡ with_words e (drop (i + 1) ws)
  unfolding with_words
  with_words-more e h = rw (drop-get ws i w here, h, add-one) refl

  pub with_words-stop : with_word d w ≡ None → with_words d (drop i ws) ≡ None
  unfolding with_words
  with_words-stop h = rw (drop-get ws i w here, h) refl

pub with_words-end : (d : Draft) (ws : List (List ℕ)) (i : ℕ) → length ws ≤ i
    → with_words d (drop i ws) ≡ Some d
unfolding with_words
with_words-end d ws i le = rw (drop_all i ws le) refl

-- each place within has a word
pub get-within : {A : Type 0} (xs : List A) (i : ℕ) → i < length xs → slice_get xs i ≡ None → ⊥
get-within [] i lt h = absurd (omega arith)
get-within (x ∷ xs) zero lt h = cc
get-within (x ∷ xs) (suc i) lt h = get-within xs i (omega arith) h

-- a refusal of a step is a refusal of the whole
pub Refuses-from : {A B : Type 0} (e : WordsError) (r : Option A) (q : Option B)
    → (r ≡ None → q ≡ None) → Refuses e r → Refuses e q
Refuses-from Words r q f h = f h
Refuses-from NoMemory r q f h = tt
