-- Each piece is written, up to the first that is empty.
use Rattle.std.proofs.Common.{◌≡◌, ◌∙◌, refl, sym, arith, eqb-true}
use Rattle.std.proofs.lemmas.Result.{err_from_is_err_and}
use Rattle.tree_model.specs.Reading.{bytes_at, part}
use Rattle.tree_host.specs.TreeHosts.{tree}
use Rattle.mount9_run.proofs.Sequences.{Writing-memory, Writing-more, Writing-stop, Writing-end}
use Rattle.mount9_run.proofs.Sequences.{Writing-at}
use Rattle.mount9_run.proofs.FileLines.{encode-step, encode-end, piece_within, bytes_at-short}
use Rattle.mount9_run.proofs.report.walk.write_pieces.Goals as goal

pub returns-in-Err : goal.returns-in-Err
returns-in-Err g c = Writing-memory c.pieces.invariant.writing

pub returns-then-is_empty : goal.returns-then-is_empty
returns-then-is_empty g c =
    let bytes = bytes_at (tree c.args.host.now) c.args.ino in
    let piece = c.as_slice-piece.result.now in
    let is : piece ≡ part bytes c.pieces.offset 4096 = c.as_slice-piece.ensures.value
    ∙ c.in-Ok.ensures in
    Writing-end (Writing-at (encode-end bytes piece c.pieces.offset is
    (eqb-true _ 0 (sym c.if-is_empty.ensures))) c.pieces.invariant.writing)

pub returns-in_err-write_hex : goal.returns-in_err-write_hex
returns-in_err-write_hex g c =
    let bytes = bytes_at (tree c.args.host.now) c.args.ino in
    let piece = c.as_slice-piece.result.now in
    let is : piece ≡ part bytes c.pieces.offset 4096 = c.as_slice-piece.ensures.value
    ∙ c.in-Ok.ensures in
    let p = err_from_is_err_and c.from_residual.result c.from_residual.ensures.1 in rw (p.1, p.2)
    (Writing-stop _ (Writing-at (encode-step bytes piece c.pieces.offset is _ refl)
    c.pieces.invariant.writing) c.in_err-write_hex.field-0.0 c.in_err-write_hex.ensures)

pub overflow_add-offset : goal.overflow_add-offset
overflow_add-offset g c =
    let bytes = bytes_at (tree c.args.host.now) c.args.ino in
    let piece = c.as_slice-piece.result.now in
    let is : piece ≡ part bytes c.pieces.offset 4096 = c.as_slice-piece.ensures.value
    ∙ c.in-Ok.ensures in
    omega (
      arith,
      piece_within bytes piece c.pieces.offset is c.pieces.invariant.within,
      bytes_at-short (tree c.args.host.now) c.args.host.now.good c.args.ino,
    )

pub pieces-preserved : goal.pieces-preserved
pieces-preserved g c =
    let bytes = bytes_at (tree c.args.host.now) c.args.ino in
    let piece = c.as_slice-piece.result.now in
    let is : piece ≡ part bytes c.pieces.offset 4096 = c.as_slice-piece.ensures.value
    ∙ c.in-Ok.ensures in
    record {
      writing = Writing-more (Writing-at (encode-step bytes piece c.pieces.offset is _ refl)
          c.pieces.invariant.writing) c.in_ok-write_hex.ensures;
      within = omega (arith, piece_within bytes piece c.pieces.offset is c.pieces.invariant.within);
    }
