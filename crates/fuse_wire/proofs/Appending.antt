-- What stands in a buffer after one piece was appended behind another.
use Rattle.std.proofs.Common.{◌≡◌, ℕ, ◌+◌, ◌<◌, List, ◌++◌, length, take, get_or, sym, ap, ◌∙◌}
use Rattle.std.proofs.Common.{append_assoc}
use Rattle.std.specs.List.{flat_map}
use Rattle.std.proofs.lemmas.List.{take_more, flat_map_more}

-- a piece, and then another, are both behind what was there
pub joined : (old mid new a b : List ℕ) → mid ≡ old ++ a → new ≡ mid ++ b → new ≡ old ++ (a ++ b)
joined old mid new a b first second = second ∙ ap (λ (l : List ℕ). l ++ b) first
    ∙ append_assoc old a b

-- one more number stands behind those so far
pub one_more : (f : ℕ → List ℕ) (old so_far new numbers : List ℕ) (i : ℕ) → i < length numbers
    → so_far ≡ old ++ flat_map f (take i numbers) → new ≡ so_far ++ f (get_or numbers i 0)
    → new ≡ old ++ flat_map f (take (i + 1) numbers)
one_more f old so_far new numbers i within was more =
    more ∙ ap (λ (l : List ℕ). l ++ f (get_or numbers i 0)) was
    ∙ flat_map_more f old (take i numbers) (get_or numbers i 0)
    ∙ ap (λ (l : List ℕ). old ++ flat_map f l) (sym (take_more numbers i 0 within))
