-- What was decoded and what is left are the text that is meant.
use Rattle.std.proofs.Common.{◌≡◌, ◌∙◌, ◌++◌, sym, ap, arith, length, List, ℕ}
use Rattle.std.proofs.lemmas.Bool.Decides.{nat_tests}
use Rattle.std.proofs.lemmas.List.{append-nil, nil_from_length}
use Rattle.libmount.specs.Escapes.{decoded}
use Rattle.libmount.proofs.EscapeLemmas.{decoded-nil}
use Rattle.libmount.proofs.mountinfo.escapes.decode.Goals as goal

pub returns : goal.returns
returns c =
    let none : length c.bytes.rest.now ≡ 0 = grind (arith, nat_tests) in
    sym (append-nil c.bytes.bytes.items) ∙ ap (λ (t : List ℕ). c.bytes.bytes.items ++ t)
    (sym (ap decoded (nil_from_length c.bytes.rest.now none) ∙ decoded-nil)) ∙ c.bytes.invariant
