-- A name without a fault is a text of a message.
use Rattle.std.proofs.Common.{◌≡◌, ℕ, ◌≤◌, Bool, true, false, cond, not, List, [], ◌∷◌, length}
use Rattle.std.proofs.Common.{Some, None, Option, refl}
use Rattle.std.specs.Prelude.{◌==◌, ◌||◌}
use Rattle.std.specs.List.{list_any}
use Rattle.std.specs.Str.{is_utf8}
use Rattle.std.proofs.lemmas.Bool.{ltb-false}
use Rattle.port_base.specs.Names.{name_fault, is_separator}
use Rattle.p9_wire.specs.Texts.{is_text}

cond_none : (b : Bool) (e : ℕ) (o : Option ℕ) → cond b (Some e) o ≡ None → (b ≡ false) × (o ≡ None)
cond_none true e o h = absurd cc
cond_none false e o h = (refl, h)

or_false : (a b : Bool) → (a || b) ≡ false → (a ≡ false) × (b ≡ false)
or_false true b h = absurd cc
or_false false b h = (refl, h)

not_false : (b : Bool) → not b ≡ false → b ≡ true
not_false true h = refl
not_false false h = absurd cc

no_zero : (bs : List ℕ) → list_any is_separator bs ≡ false → list_any (λ x. x == 0) bs ≡ false
no_zero [] h = refl
no_zero (b ∷ bs) h =
    let here = or_false ((b == 47) || (b == 0)) (list_any is_separator bs) h in
    let zero : (b == 0) ≡ false = (or_false (b == 47) (b == 0) here.0).1 in
    rw zero (no_zero bs here.1)

pub name_is_text : (name : List ℕ) → name_fault name ≡ None → (length name ≤ 255)
    × (is_text name ≡ true)
unfolding is_text
name_is_text name h =
    let a = cond_none _ _ _ h in
    let b = cond_none _ _ _ a.1 in
    let c = cond_none _ _ _ b.1 in
    let d = or_false _ _ c.0 in
    let e = or_false _ _ d.0 in
    let zero = no_zero name e.0 in
    let utf8 = not_false (is_utf8 name) d.1 in
    (ltb-false _ _ b.0, rw (utf8, zero) refl)
