-- What a change makes of each flag.
use Rattle.std.proofs.Common.{◌≡◌, ◌∙◌, ◌-◌, ◌^◌, ◌<◌, ℕ, min, sym, ap, arith, w64}
use Rattle.std.specs.Prelude.{max}
use Rattle.std.specs.Int.{bit_at}
use Rattle.std.proofs.lemmas.Nat.Bits.{bit_at-lt, bit_at_and, bit_at_not, bit_at_or, same_from_bits}
use Rattle.libmount.specs.Builders.{FlagChange, apply_to_flags}

-- a bit that is kept where no mask takes it, or set
changed_bit : (change : FlagChange) (flags i : ℕ) →
    bit_at (apply_to_flags change flags) i ≡ max
    (min (bit_at flags i) (bit_at (2 ^ 64 - 1 - change.cleared) i)) (bit_at change.set i)
changed_bit change flags i = bit_at_or _ _ i ∙ ap (λ b. max b (bit_at change.set i))
    (bit_at_and flags _ i)

max_min : (f n s : ℕ) → max (min (max (min f n) s) n) s ≡ max (min f n) s
max_min f n s = omega arith

pub twice_is_once : (change : FlagChange) (flags : ℕ)
    → apply_to_flags change (apply_to_flags change flags) ≡ apply_to_flags change flags
twice_is_once change flags =
    same_from_bits _ _ (λ i. changed_bit change (apply_to_flags change flags) i
    ∙ ap (λ b. max (min b (bit_at (2 ^ 64 - 1 - change.cleared) i)) (bit_at change.set i))
    (changed_bit change flags i)
    ∙ max_min (bit_at flags i) (bit_at (2 ^ 64 - 1 - change.cleared) i) (bit_at change.set i)
    ∙ sym (changed_bit change flags i))

set_bit : (f n s : ℕ) → f < 2 → s ≡ 1 → max (min f n) s ≡ 1
set_bit f n s small is = omega arith

gone_bit : (f n s c : ℕ) → n ≡ 1 - c → c ≡ 1 → s ≡ 0 → max (min f n) s ≡ 0
gone_bit f n s c mask cleared is = omega arith

kept_bit : (f n s c : ℕ) → f < 2 → n ≡ 1 - c → c ≡ 0 → s ≡ 0 → max (min f n) s ≡ f
kept_bit f n s c small mask cleared is = omega arith

pub set_is_there : (change : FlagChange) (flags i : ℕ) → bit_at change.set i ≡ 1
    → bit_at (apply_to_flags change flags) i ≡ 1
set_is_there change flags i is = changed_bit change flags i ∙ set_bit _ _ _ (bit_at-lt flags i) is

pub cleared_is_gone : (change : FlagChange) (flags i : ℕ) → change.cleared < 2 ^ 64 → i < 64
    → bit_at change.cleared i ≡ 1 → bit_at change.set i ≡ 0 →
    bit_at (apply_to_flags change flags) i ≡ 0
cleared_is_gone change flags i fits within cleared is =
    changed_bit change flags i ∙ gone_bit _ _ _ (bit_at change.cleared i)
    (bit_at_not w64 change.cleared i fits within) cleared is

pub other_is_kept : (change : FlagChange) (flags i : ℕ) → change.cleared < 2 ^ 64 → i < 64
    → bit_at change.cleared i ≡ 0 → bit_at change.set i ≡ 0 →
    bit_at (apply_to_flags change flags) i ≡ bit_at flags i
other_is_kept change flags i fits within cleared is =
    changed_bit change flags i ∙ kept_bit _ _ _ (bit_at change.cleared i) (bit_at-lt flags i)
    (bit_at_not w64 change.cleared i fits within) cleared is
