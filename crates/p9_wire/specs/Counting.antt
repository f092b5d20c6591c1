-- Frames one after another: one more is read, and each takes bytes.
use Rattle.std.proofs.Common.{◌≡◌, ℕ, zero, suc, ◌+◌, ◌-◌, ◌≤◌, Bool, true, false, ◌&&◌, List, []}
use Rattle.std.proofs.Common.{◌∷◌, ◌++◌, length, Result, Ok, refl, ap, ◌∙◌, arith}
use Rattle.std.specs.Prelude.{nat_le}
use Rattle.std.specs.Int.{w32, from_le_bytes}
use Rattle.std.proofs.lemmas.Bool.{leb-true}
use Rattle.std.proofs.lemmas.List.{length-append}
use Rattle.p9_wire.specs.declared.error.WireError.{WireError}
use Rattle.p9_wire.specs.declared.error.WireError.TheVariants.{InvalidData}
use Rattle.p9_wire.specs.Reading.{Reads, ◌>>=◌, then_read, give, fixed_at, bytes_at}
use Rattle.p9_wire.specs.Numbers.{bind_ok, found_same, bytes_take}
use Rattle.p9_wire.specs.Texts.{read_if, read_if_ok}
use Rattle.p9_wire.specs.Items.{times}
use Rattle.p9_wire.specs.Frames.{body_of, framed_reading}

both_true : (a b : Bool) → (a && b) ≡ true → (a ≡ true) × (b ≡ true)
both_true true true e = (refl, refl)
both_true true false e = absurd cc
both_true false b e = absurd cc

-- a frame has at least seven bytes
pub framed_shrinks : {M : Type 0} (r : ℕ → Reads M) (limit : ℕ) (xs ys : List ℕ)
    (f : ℕ × Result M WireError) → framed_reading r limit xs ≡ Ok (f, ys)
    → length ys + 7 ≤ length xs
framed_shrinks {M} r limit xs ys f e =
    let got : (ℕ × Result M WireError) × List ℕ = (f, ys) in
    let w = bind_ok (fixed_at 4 (from_le_bytes w32) xs)
    (λ x. read_if (nat_le 7 x.0 && nat_le x.0 limit) InvalidData
    (then_read (bytes_at (x.0 - 4)) (λ bs. give (body_of r bs))) x.1) got e in
    let size = w.0.0 in
    let a = read_if_ok (nat_le 7 size && nat_le size limit) InvalidData
    (then_read (bytes_at (size - 4)) (λ bs. give (body_of r bs))) w.0.1 got w.2 in
    let y = bind_ok (bytes_at (size - 4) w.0.1) (λ y. Ok (body_of r y.0, y.1)) got a.1 in
    let low : 7 ≤ size = leb-true 7 size (both_true (nat_le 7 size) (nat_le size limit) a.0).0 in
    let head = bind_ok (bytes_at 4 xs) (λ x. Ok (from_le_bytes w32 x.0, x.1)) w.0 w.1 in
    let t = bytes_take 4 xs head.0.0 head.0.1 head.1 in
    let u = bytes_take (size - 4) w.0.1 y.0.0 y.0.1 y.1 in
    let after : head.0.1 ≡ w.0.1 = ap (λ (z : ℕ × List ℕ). z.1)
    (found_same (from_le_bytes w32 head.0.0, head.0.1) w.0 head.2) in
    let rest : y.0.1 ≡ ys = ap (λ (z : (ℕ × Result M WireError) × List ℕ). z.1)
    (found_same (body_of r y.0.0, y.0.1) got y.2) in
    omega (
      arith,
      low,
      t.1,
      u.1,
      ap length t.0,
      ap length u.0,
      ap length after,
      ap length rest,
      length-append head.0.0 head.0.1,
      length-append y.0.0 y.0.1,
    )

-- one more value behind n
pub times_more : {P : Type 0} (r : Reads P) (n : ℕ) (xs ys zs : List ℕ) (ps : List P) (p : P)
    → times r n xs ≡ Ok (ps, ys) → r ys ≡ Ok (p, zs) → times r (suc n) xs ≡ Ok (ps ++ p ∷ [], zs)
unfolding times
times_more {P} r zero xs ys zs ps p e f =
    let same : ([], xs) ≡ (ps, ys) = found_same ([], xs) (ps, ys) e in
    let now : r xs ≡ Ok (p, zs) = ap (λ (z : List P × List ℕ). r z.1) same ∙ f in
    let front : [] ≡ ps = ap (λ (z : List P × List ℕ). z.0) same in
    ap (λ (z : Result (P × List ℕ) WireError). z >>= λ x. then_read (times r zero)
    (λ qs. give (x.0 ∷ qs)) x.1) now ∙ ap (λ (l : List P). Ok (l ++ p ∷ [], zs)) front
times_more {P} r (suc n) xs ys zs ps p e f =
    let x = bind_ok (r xs) (λ x. then_read (times r n) (λ qs. give (x.0 ∷ qs)) x.1) (ps, ys) e in
    let y = bind_ok (times r n x.0.1) (λ y. Ok (x.0.0 ∷ y.0, y.1)) (ps, ys) x.2 in
    let same : (x.0.0 ∷ y.0.0, y.0.1) ≡ (ps, ys) = found_same (x.0.0 ∷ y.0.0, y.0.1) (ps, ys) y.2 in
    let next : r y.0.1 ≡ Ok (p, zs) = ap (λ (z : List P × List ℕ). r z.1) same ∙ f in
    let rest : times r (suc n) x.0.1 ≡ Ok (y.0.0 ++ p ∷ [], zs) =
    times_more r n x.0.1 y.0.1 zs y.0.0 p y.1 next in
    ap (λ (z : Result (P × List ℕ) WireError). z >>= λ x. then_read (times r (suc n))
    (λ qs. give (x.0 ∷ qs)) x.1) x.1
    ∙ ap (λ (z : Result (List P × List ℕ) WireError). z >>= λ y. Ok (x.0.0 ∷ y.0, y.1)) rest
    ∙ ap (λ (z : List P × List ℕ). Ok (z.0 ++ p ∷ [], zs)) same
