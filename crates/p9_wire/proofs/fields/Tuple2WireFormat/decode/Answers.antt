use Rattle.std.proofs.Common.{Err, Ok}
use Rattle.std.proofs.lemmas.Result.{err_from_is_err_and}
use Rattle.p9_wire.specs.Reading.{then_read, give}
use Rattle.p9_wire.specs.Fields.{pair_view}
use Rattle.p9_wire.specs.Steps.{Decodes-stops, Decodes-after, Decodes-give}
use Rattle.p9_wire.proofs.fields.Tuple2WireFormat.decode.Goals as goal

pub returns-in_err-second-clause-decodes : goal.returns-in_err-second-clause-decodes
returns-in_err-second-clause-decodes g c =
    let p = err_from_is_err_and c.from_residual-in_err-second.result
    c.from_residual-in_err-second.ensures.1 in
    let view = pair_view g.A.WireFormat.view g.B.WireFormat.view in
    let first = g.A.WireFormat.view c.in_ok-first.first in
    rw (p.1, p.2) (Decodes-after g.A.WireFormat.view view g.A.WireFormat.reading
    (λ x. then_read g.B.WireFormat.reading (λ y. give (x, y))) _ _ _ _ _ _ c.in_ok-first.first
    (Err c.in_err-second.field-0.0) c.in_ok-first.ensures.decodes
    (Decodes-stops g.B.WireFormat.view view g.B.WireFormat.reading
    (λ y. give (first, y)) _ _ _ _ c.in_err-second.field-0.0 c.in_err-second.ensures.decodes))

pub returns-clause-decodes : goal.returns-clause-decodes
returns-clause-decodes g c =
    let view = pair_view g.A.WireFormat.view g.B.WireFormat.view in
    let first = g.A.WireFormat.view c.in_ok-first.first in
    Decodes-after g.A.WireFormat.view view g.A.WireFormat.reading
    (λ x. then_read g.B.WireFormat.reading (λ y. give (x, y))) _ _ _ _ _ _ c.in_ok-first.first
    (Ok (c.in_ok-first.first, c.in_ok-second.second)) c.in_ok-first.ensures.decodes
    (Decodes-after g.B.WireFormat.view view g.B.WireFormat.reading
    (λ y. give (first, y)) _ _ _ _ _ _ c.in_ok-second.second
    (Ok (c.in_ok-first.first, c.in_ok-second.second)) c.in_ok-second.ensures.decodes
    (Decodes-give view (c.in_ok-first.first, c.in_ok-second.second) _ _))
