-- How many pieces a reading takes, piece by piece.
use Rattle.std.proofs.Common.{◌≡◌, ℕ, zero, suc, ◌+◌, ◌-◌, ◌*◌, ◌<◌, ◌≤◌, true, false, cond, refl}
use Rattle.std.proofs.Common.{sym, ap, ◌∙◌, arith, nat_lt, min, ⊎_elim}
use Rattle.std.specs.Prelude.{◌/◌, ◌%◌, max}
use Rattle.std.specs.Int.{div_ceil}
use Rattle.std.proofs.lemmas.Bool.{cases_eq}
use Rattle.std.proofs.lemmas.Bool.Decides.{nat_tests}
use Rattle.std.proofs.lemmas.Nat.{div-add-mod'}
use Rattle.std.proofs.Math.Nat.{add-div_right, add-mod_right, div-eq_of_lt}
use Rattle.tree_machine.specs.Messages.{pieces}

lt_true : (a b : ℕ) → a < b → nat_lt a b ≡ true
lt_true a b h = grind (arith, nat_tests)

lt_false : (a b : ℕ) → b ≤ a → nat_lt a b ≡ false
lt_false a b h = grind (arith, nat_tests)

fewer : (piece asked there : ℕ) → there < asked → pieces piece asked there ≡ there / piece + 1
fewer piece asked there less = ap (λ b. cond b (there / piece + 1) (max 1 (div_ceil asked piece)))
    (lt_true there asked less)

whole : (piece asked there : ℕ) → asked ≤ there
    → pieces piece asked there ≡ max 1 (div_ceil asked piece)
whole piece asked there all = ap (λ b. cond b (there / piece + 1) (max 1 (div_ceil asked piece)))
    (lt_false there asked all)

pub div_more : (a piece : ℕ) → 1 ≤ piece → piece ≤ a → a / piece ≡ (a - piece) / piece + 1
div_more a piece some long =
    let split : a ≡ (a - piece) + piece = omega (arith, long) in
    ap (λ k. k / piece) split ∙ add-div_right (a - piece) {k = piece} (omega (arith, some))

mod_more : (a piece : ℕ) → piece ≤ a → a % piece ≡ (a - piece) % piece
mod_more a piece long =
    let split : a ≡ (a - piece) + piece = omega (arith, long) in
    ap (λ k. k % piece) split ∙ add-mod_right (a - piece) piece

ceil_more : (a piece : ℕ) → 1 ≤ piece → piece ≤ a
    → div_ceil a piece ≡ div_ceil (a - piece) piece + 1
ceil_more a piece some long =
    let quotient = div_more a piece some long in
    let rest = ap (λ k. min 1 k) (mod_more a piece long) in
    omega (arith, quotient, rest)

ceil_some : (a piece quotient : ℕ) → quotient ≡ a / piece → 1 ≤ a → 1 ≤ div_ceil a piece
ceil_some a piece zero is some = let all = div-add-mod' a piece in let none : a / piece * piece
    ≡ 0 = ap (λ k. k * piece) (sym is) ∙ omega arith in omega (arith, all, none, some, is)
ceil_some a piece (suc q) is some = omega (arith, is)

ceil_few : (a piece : ℕ) → a < piece → div_ceil a piece ≤ 1
ceil_few a piece few = let none : a / piece ≡ 0 = div-eq_of_lt few in omega (arith, none)

-- a short piece is the last
pub last_short : (piece asked there : ℕ) → there < min asked piece → pieces piece asked there ≡ 1
last_short piece asked there short =
    let none : there / piece ≡ 0 = div-eq_of_lt (omega (arith, short)) in
    let counted = fewer piece asked there (omega (arith, short)) in
    omega (arith, none, counted)

-- and so is one that is all that was asked for
pub last_whole : (piece asked there : ℕ) → 1 ≤ piece → asked ≤ piece → there ≡ asked
    → pieces piece asked there ≡ 1
last_whole piece asked there some few all =
    let counted = whole piece asked there (omega (arith, all)) in
    ⊎_elim
    (λ equal.
    let one : div_ceil piece piece ≡ div_ceil (piece - piece) piece + 1 =
    ceil_more piece piece some (omega arith) in
    let less : div_ceil (piece - piece) piece ≤ 1 =
    ceil_few (piece - piece) piece (omega (arith, some)) in
    let none : div_ceil (piece - piece) piece ≡ 0 = nothing piece some in
    let same : div_ceil asked piece ≡ div_ceil piece piece = ap (λ k. div_ceil k piece) equal in
    omega (arith, one, none, same, counted))
    (λ ne. let least = ceil_few asked piece (omega (arith, few, ne)) in omega
    (arith, least, counted))
    (cases_eq asked piece) where
      nothing : (piece : ℕ) → 1 ≤ piece → div_ceil (piece - piece) piece ≡ 0
      nothing piece some =
          let zero_is : piece - piece ≡ 0 = omega arith in
          let quotient : 0 / piece ≡ 0 = div-eq_of_lt (omega (arith, some)) in
          let all = div-add-mod' 0 piece in
          let rest : 0 % piece ≡ 0 = omega (arith, all) in
          ap (λ k. div_ceil k piece) zero_is ∙ ap (λ k. k + min 1 (0 % piece)) quotient
          ∙ ap (λ k. 0 + min 1 k) rest

-- a full piece is followed by those of the rest
pub one_more : (piece asked there : ℕ) → 1 ≤ piece → piece < asked → piece ≤ there → there ≤ asked
    → pieces piece asked there ≡ 1 + pieces piece (asked - piece) (there - piece)
one_more piece asked there some more full within = ⊎_elim
    (λ equal.
    let counted = whole piece asked there (omega (arith, equal)) in
    let rest = whole piece (asked - piece) (there - piece) (omega (arith, equal)) in
    let step = ceil_more asked piece some (omega (arith, more)) in
    let left = ceil_some (asked - piece) piece ((asked - piece) / piece) refl (omega (arith, more))
    in
    omega (arith, counted, rest, step, left))
    (λ ne.
    let counted = fewer piece asked there (omega (arith, within, ne)) in
    let rest = fewer piece (asked - piece) (there - piece) (omega (arith, within, ne, full)) in
    let step = div_more there piece some full in
    omega (arith, counted, rest, step))
    (cases_eq there asked)
