-- The bytes so far are those that came, and a piece that fails is too few bytes for the whole.
use Rattle.std.proofs.Common.{◌+◌, ◌≤◌, ◌++◌, length, arith, refl}
use Rattle.std.proofs.lemmas.Grind.{common_steps}
use Rattle.std.proofs.lemmas.List.{length-take}
use Rattle.std.proofs.lemmas.Result.{err_from_is_err_and}
use Rattle.p9_wire.proofs.Pieces.{Came-more, Came-stops, Came-memory}
use Rattle.p9_wire.proofs.bytes.read_pieces.Goals as goal

pub returns-in_err-fill-clause-decodes : goal.returns-in_err-fill-clause-decodes
returns-in_err-fill-clause-decodes g c =
    let p = err_from_is_err_and c.from_residual-in_err-fill.result
    c.from_residual-in_err-fill.ensures.1 in
    let front = c.loop-piece.bytes.items in
    let size = simp length-take at c.fill.auto.buf in
    let within : length front + length c.fill.new.buf ≤ c.args.n =
    first_of (
      grind (arith, common_steps),
      omega
          (arith, size, c.min-count.ensures, c.len-in-loop-piece.ensures),
    ) in
    rw (p.1, p.2)
    (Came-stops _ (λ v. v.items) c.args.n (length c.fill.new.buf) _ _ _ _ _ _ front within
    c.loop-piece.invariant.came c.in_err-fill.field-0.0 c.in_err-fill.ensures.decodes)

pub returns-in_err-extend_from_slice-clause-decodes :
    goal.returns-in_err-extend_from_slice-clause-decodes
returns-in_err-extend_from_slice-clause-decodes g c =
    let p = err_from_is_err_and c.from_residual-in_err-extend_from_slice.result
    c.from_residual-in_err-extend_from_slice.ensures.1 in
    let front = c.loop-piece.bytes.items in
    let piece = c.fill.new.buf in
    rw (p.1, p.2)
    (Came-memory (λ v. v.items) c.args.n _ _ _ _ (front ++ piece)
    (Came-more c.in_ok-fill.field-0 (length piece) _ _ _ _ _ _ front piece (front ++ piece) refl
    c.loop-piece.invariant.came c.in_ok-fill.ensures.decodes))
