-- What the bytes say is what the frame's body says.
use Rattle.std.proofs.Common.{◌≡◌, subst}
use Rattle.std.specs.Prelude.{MatchResult}
use Rattle.std.proofs.lemmas.Result.{err_from_is_err_and}
use Rattle.p9_wire.specs.declared.error.WireError.TheVariants.{NoMemory}
use Rattle.p9_wire.specs.Frames.{body_of, framed_view}
use Rattle.p9_wire.proofs.Framing.{body_stops, body_ends}
use Rattle.p9_wire.proofs.frame.decode_long.Goals as goal

pub returns-in_err-bytes-clause-decodes : goal.returns-in_err-bytes-clause-decodes
returns-in_err-bytes-clause-decodes g c =
    let p = err_from_is_err_and c.from_residual.result c.from_residual.ensures.1 in
    rw (p.1, p.2)
    (body_stops g.M.Framed.view g.M.Framed.reading (λ v. v.items) c.args.length _ _ _ _
    c.in_err-bytes.field-0.0 c.in_err-bytes.ensures.decodes)

pub returns-clause-decodes : goal.returns-clause-decodes
returns-clause-decodes g c =
    body_ends g.M.Framed.view g.M.Framed.reading (λ v. v.items) c.args.length _ _ _ _
    c.in_ok-bytes.bytes c.body_in.result c.in_ok-bytes.ensures.decodes
    (subst (λ bs. MatchResult c.body_in.result
    (λ f. framed_view g.M.Framed.view f ≡ body_of g.M.Framed.reading bs) (λ e. e ≡ NoMemory))
    c.as_slice.ensures.value c.body_in.ensures.body)
