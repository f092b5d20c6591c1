-- Each part is passed over until one is a name.
use Rattle.std.proofs.Common.{◌≡◌, ◌<◌, ◌∙◌, ap, sym, arith, length}
use Rattle.std.proofs.lemmas.Bool.Decides.{nat_tests}
use Rattle.std.proofs.lemmas.List.{nil_from_length}
use Rattle.port_base.specs.Paths.{names}
use Rattle.port_base.proofs.PathParts.{names-name, names-pass, names-nil, rest-shorter}
use Rattle.fuse_mnt.proofs.paths.first_name.Goals as goal

pub returns-then-is_name : goal.returns-then-is_name
returns-then-is_name c =
    let e = c.first_part.ensures in
    let some : 0 < length c.parts.rest.now = grind (arith, nat_tests) in
    let shorter = rest-shorter _ _ e.rest some in (
      c.parts.invariant.same ∙ names-name _ _ _ e.part e.rest
          (sym c.is_name.ensures ∙ c.if-is_name.true),
      omega
          (arith, shorter, c.parts.invariant.shorter),
    )

pub parts-preserved : goal.parts-preserved
parts-preserved c =
    let e = c.first_part.ensures in
    let some : 0 < length c.parts.rest.now = grind (arith, nat_tests) in
    let shorter = rest-shorter _ _ e.rest some in
    record {
      same = c.parts.invariant.same ∙ names-pass _ _ _ e.part e.rest
          (sym c.is_name.ensures ∙ c.if-is_name.false);
      shorter = omega (arith, shorter, c.parts.invariant.shorter);
    }

pub returns : goal.returns
returns c =
    let none : length c.parts.rest.now ≡ 0 = grind (arith, nat_tests) in
    c.parts.invariant.same ∙ ap names (nil_from_length _ none) ∙ names-nil
