-- A piece that could not be taken ends the filling.
use Rattle.std.proofs.Common.{arith}
use Rattle.std.proofs.lemmas.Result.{err_from_is_err_and}
use Rattle.fuse_wire.proofs.Filling.{Fills-stopped}
use Rattle.fuse_wire.proofs.frames.fill.Goals as goal

pub returns-in_err-n-clause-fills : goal.returns-in_err-n-clause-fills
returns-in_err-n-clause-fills g c =
    let p = err_from_is_err_and c.from_residual.result c.from_residual.ensures.1 in
    rw (p.1, p.2) (Fills-stopped _ _ _ _ _ _ _ _ c.take_piece.new.frame.items _ _ _
    c.in_err-n.field-0.0 c.loop-rest.invariant.filling c.in_err-n.ensures.piece
    (omega (arith, c.min-count.ensures)))
