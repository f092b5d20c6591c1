-- Bytes that are filled up and then written over are those that a definition gives.
use Rattle.std.proofs.Common.{◌≡◌, ℕ, ◌+◌, ◌-◌, ◌≤◌, List, ◌++◌, length, take, drop, replicate, sym}
use Rattle.std.proofs.Common.{ap, ◌∙◌, ⊎_elim, arith, length-append, length-take, length-drop}
use Rattle.std.proofs.Common.{take_all}
use Rattle.std.proofs.lemmas.Bool.{cases_lt}
use Rattle.std.proofs.lemmas.List.{append-nil, drop_all, take-append-le, take-replicate}
use Rattle.std.proofs.lemmas.List.{length-replicate}
use Rattle.std.proofs.Math.Seq.{take-append-add}
use Rattle.tree_model.specs.Attributing.{resized, written}

zeros : ℕ → List ℕ
zeros n = replicate n 0

no_zeros : (n : ℕ) (xs : List ℕ) → n ≡ 0 → xs ++ replicate n 0 ≡ xs
no_zeros n xs none = ap (λ n. xs ++ replicate {A = ℕ} n 0) none ∙ append-nil xs

front : (offset end : ℕ) (old : List ℕ) → offset ≤ end
    → take offset (old ++ replicate (end - length old) 0) ≡ resized offset old
front offset end old low = ⊎_elim
    (λ beyond.
    let more : offset ≡ length old + (offset - length old) = omega arith in
    ap (λ n. take n (old ++ replicate {A = ℕ} (end - length old) 0)) more
    ∙ take-append-add old (replicate (end - length old) 0) (offset - length old)
    ∙ ap (λ zs. old ++ zs) (take-replicate (offset - length old) (end - length old) 0 (omega arith))
    ∙ ap (λ xs. xs ++ replicate (offset - length old) 0) (sym (take_all offset old (omega arith))))
    (λ within. take-append-le offset old (replicate (end - length old) 0) within
    ∙ sym (no_zeros (offset - length old) (take offset old) (omega arith)))
    (cases_lt (length old) offset)

length_filled : (end : ℕ) (old : List ℕ) → length (old ++ replicate (end - length old) 0) ≡ length
    old + (end - length old)
length_filled end old = length-append old (replicate (end - length old) 0)
    ∙ ap (λ n. length old + n) (length-replicate (end - length old) 0)

rest : (end : ℕ) (old : List ℕ) → drop end (old ++ replicate (end - length old) 0) ≡ drop end old
rest end old = ⊎_elim
    (λ beyond. let full = length_filled end old in drop_all end
    (old ++ replicate (end - length old) 0) (omega arith)
    ∙ sym (drop_all end old (omega arith)))
    (λ within. ap (drop end) (no_zeros (end - length old) old (omega arith)))
    (cases_lt (length old) end)

pub put_is_written : (offset : ℕ) (new old filled : List ℕ) → filled ≡ old
    ++ replicate (offset + length new - length old) 0 → take offset filled ++ new
    ++ drop (offset + length new) filled ≡ written offset new old
put_is_written offset new old filled is =
    ap (λ xs. take offset xs ++ new ++ drop (offset + length new) xs) is
    ∙ ap (λ xs. xs ++ new ++ drop (offset + length new)
    (old ++ replicate (offset + length new - length old) 0))
    (front offset (offset + length new) old (omega arith))
    ∙ ap (λ xs. resized offset old ++ new ++ xs) (rest (offset + length new) old)

length_put : (offset : ℕ) (new filled : List ℕ) → offset + length new ≤ length filled
    → length (take offset filled ++ new ++ drop (offset + length new) filled) ≡ length filled
length_put offset new filled fits =
    let all : length (take offset filled ++ new ++ drop (offset + length new) filled) ≡ length
    (take offset filled ++ new) + length (drop (offset + length new) filled) =
    length-append (take offset filled ++ new) (drop (offset + length new) filled) in
    let both = length-append (take offset filled) new in
    let cut = length-take offset filled in
    let behind = length-drop (offset + length new) filled in
    omega arith

-- what is put over a whole part leaves nothing behind it
pub put_back : (n offset : ℕ) (new old filled slice put : List ℕ) → filled ≡ old
    ++ replicate (offset + length new - length old) 0 → slice ≡ filled → length filled ≡ n
    → put ≡ take offset slice ++ new ++ drop (offset + length new) slice
    → take n (put ++ drop (length put) filled) ≡ written offset new old
put_back n offset new old filled slice put is same count made =
    let full = ap length is ∙ length_filled (offset + length new) old in
    let is_put : put ≡ take offset filled ++ new ++ drop (offset + length new) filled = made
    ∙ ap (λ xs. take offset xs ++ new ++ drop (offset + length new) xs) same in
    let size = ap length is_put ∙ length_put offset new filled (omega arith) in
    ap (λ xs. take n (put ++ xs)) (drop_all (length put) filled (omega arith))
    ∙ ap (take n) (append-nil put) ∙ take_all n put (omega arith)
    ∙ is_put ∙ put_is_written offset new old filled is
