-- The pairs of a batch, one after another.
use Rattle.std.proofs.Common.{◌≡◌, ℕ, ◌-◌, ◌<◌, ◌≤◌, List, [], ◌∷◌, length, take, drop, sym, ap}
use Rattle.std.proofs.Common.{◌∙◌, arith}
use Rattle.std.specs.Prelude.{◌/◌, map as each}
use Rattle.std.specs.Simd.{first_chunks}
use Rattle.std.proofs.lemmas.List.{length-drop}
use Rattle.std.proofs.Math.Nat.{div-eq_of_lt}
use Rattle.std.proofs.Math.Numerals.{add-one}
use Rattle.tree_machine.specs.Forgetting.{pair_of, pairs_of}
use Rattle.tree_machine.proofs.Pieces.{div_more}

pub no_pair : (bytes : List ℕ) → length bytes < 16 → pairs_of bytes ≡ []
no_pair bytes short =
    let none : length bytes / 16 ≡ 0 = div-eq_of_lt short in
    ap (λ k. each pair_of (first_chunks 16 k bytes)) none

pub one_pair : (bytes : List ℕ) → 16 ≤ length bytes → pairs_of bytes ≡ pair_of (take 16 bytes)
    ∷ pairs_of (drop 16 bytes)
one_pair bytes long =
    ap (λ k. each pair_of (first_chunks 16 k bytes))
    (div_more (length bytes) 16 (omega arith) long ∙ add-one ((length bytes - 16) / 16))
    ∙ ap (λ (n : ℕ). pair_of (take 16 bytes) ∷ each pair_of
    (first_chunks 16 (n / 16) (drop 16 bytes))) (sym (length-drop 16 bytes))
