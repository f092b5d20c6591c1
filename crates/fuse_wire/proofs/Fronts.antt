-- What stands at the front of bytes.
use Rattle.std.proofs.Common.{◌≡◌, ℕ, ◌≤◌, ◌<◌, true, false, List, ◌++◌, length, ap, ◌∙◌, arith}
use Rattle.std.proofs.Common.{eq-eqb, ne_eqb, le-ltb, lt-ltb, length-append, drop_at, refl}
use Rattle.std.proofs.lemmas.Bool.Decides.{nat_tests}
use Rattle.std.proofs.lemmas.List.{take-append-le}
use Rattle.std.specs.Int.{w32, from_le_bytes}
use Rattle.std.proofs.Math.Seq.{take-append_seam}
use Rattle.fuse_wire.specs.Fields.{u32_at}
use Rattle.fuse_wire.specs.Cuts.{front, front_of_length, is_allowed, IsFrame}
use Rattle.fuse_wire.specs.Cuts.Front.{nothing, part, odd_length, whole}

-- the first number stands in the first four bytes
pub u32_at-append : (head more : List ℕ) → 4 ≤ length head → u32_at (head ++ more) 0 ≡ u32_at head 0
unfolding u32_at
u32_at-append head more long = ap (from_le_bytes w32) (take-append-le 4 head more long)

pub front-nil : (bytes : List ℕ) → length bytes ≡ 0 → front bytes ≡ nothing
unfolding front
front-nil bytes none = rw (eq-eqb (length bytes) 0 none) refl

pub front-few : (bytes : List ℕ) → 0 < length bytes → length bytes < 4 → front bytes ≡ part
unfolding front
front-few bytes some few = rw (ne_eqb (length bytes) 0 (omega arith), lt-ltb (length bytes) 4 few)
    refl

-- from four bytes on, the length that they tell decides
front-told : (bytes : List ℕ) → 4 ≤ length bytes → front bytes
    ≡ front_of_length bytes (u32_at bytes 0)
unfolding front
front-told bytes long = rw (ne_eqb (length bytes) 0 (omega arith), le-ltb (length bytes) 4 long)
    refl

pub front-odd_length : (bytes : List ℕ) → 4 ≤ length bytes → is_allowed (u32_at bytes 0) ≡ false
    → front bytes ≡ odd_length
front-odd_length bytes long odd = front-told bytes long ∙ (rw odd refl)

pub front-part : (bytes : List ℕ) → 4 ≤ length bytes → is_allowed (u32_at bytes 0) ≡ true
    → length bytes < u32_at bytes 0 → front bytes ≡ part
front-part bytes long allowed few = front-told bytes long
    ∙ (rw (allowed, lt-ltb (length bytes) (u32_at bytes 0) few) refl)

pub is_allowed-range : (len : ℕ) → is_allowed len ≡ true → (40 ≤ len) × (len ≤ 69632)
unfolding is_allowed
is_allowed-range len h = (grind (arith, nat_tests), grind (arith, nat_tests))

pub front-whole : (frame rest : List ℕ) → IsFrame frame → front (frame ++ rest) ≡ whole frame rest
front-whole frame rest h =
    let long : 40 ≤ length frame = (is_allowed-range (length frame) h.allowed).0 in
    let len : u32_at (frame ++ rest) 0 ≡ length frame = u32_at-append frame rest (omega arith)
    ∙ h.tells in
    front-told (frame ++ rest) (omega (arith, length-append frame rest))
    ∙ ap (front_of_length (frame ++ rest)) len
    ∙ (rw (
      h.allowed,
      le-ltb (length (frame ++ rest)) (length frame)
          (omega (arith, length-append frame rest)),
      take-append_seam frame rest,
      drop_at frame rest
          (length frame) refl,
    ) refl)
