-- The parts of a configuration's text, one after another.
use Rattle.std.proofs.Common.{◌≡◌, List, ℕ, [], ◌∷◌, ◌++◌, map, refl, Bool, false, length, Result}
use Rattle.std.proofs.Common.{Ok}
use Rattle.std.specs.Prelude.{fold, ◌==◌}
use Rattle.std.specs.List.{slice_split}
use Rattle.p9_server.specs.ConfigTexts.{with_part, casefold_of}
use Rattle.p9_server.specs.declared.config_text.ConfigTextError.{ConfigTextError}

pub with_part-push : {A : Type 0} (f : A → List ℕ) (read : Result Bool ConfigTextError)
    (xs : List A) (y : A) → fold with_part read (map f (xs ++ y ∷ []))
    ≡ with_part (fold with_part read (map f xs)) (f y)
with_part-push f read [] y = refl
with_part-push f read (x ∷ xs) y = with_part-push f (with_part read (f x)) xs y

-- a text that isn't empty tells its parts
pub some_text : (text : List ℕ) → (length text == 0) ≡ false
    → fold with_part (Ok false) (slice_split (λ b. b == 58) text) ≡ casefold_of text
some_text [] some = absurd (cc)
some_text (b ∷ text) some = refl
