use Rattle.std.proofs.Common.{◌≡◌, ◌+◌, ◌-◌, ap, arith, ℕ, length}
use Rattle.std.specs.Int.{div_ceil}
use Rattle.std.proofs.lemmas.Result.{err_from_is_err_and}
use Rattle.mount9_run.specs.ReportLines.{hex_lines, hex_rows}
use Rattle.mount9_run.proofs.Sequences.{Writing-start, Writing-more, Writing-stop, Writing-end}
use Rattle.mount9_run.proofs.Sequences.{Writing-at}
use Rattle.mount9_run.proofs.HexRows.{hex_rows-step, hex_rows-end}
use Rattle.mount9_run.proofs.report.writing.write_hex_lines.Goals as goal

pub rows-init : goal.rows-init
unfolding hex_lines
rows-init g c =
    let e : div_ceil (length c.args.bytes.now) 32 ≡ div_ceil (length c.args.bytes.now) 32 - 0 =
    omega arith in
    Writing-at (ap (λ (n : ℕ). hex_rows n c.args.bytes.now) e) (Writing-start _ _)

pub returns-in_err-write_hex_line : goal.returns-in_err-write_hex_line
returns-in_err-write_hex_line g c =
    let step = hex_rows-step (div_ceil (length c.args.bytes.now) 32 - c.rows.counter)
    (div_ceil (length c.args.bytes.now) 32 - (c.rows.counter + 1)) c.rows.rest.now
    c.first_row.result.0.now c.first_row.result.1.now (omega (arith, c.div_ceil-end.ensures))
    c.first_row.ensures.row c.first_row.ensures.rest in
    let p = err_from_is_err_and c.from_residual.result c.from_residual.ensures.1 in rw (p.1, p.2)
    (Writing-stop _ (Writing-at step c.rows.invariant) c.in_err-write_hex_line.field-0.0
    c.in_err-write_hex_line.ensures)

pub rows-preserved : goal.rows-preserved
rows-preserved g c =
    let step = hex_rows-step (div_ceil (length c.args.bytes.now) 32 - c.rows.counter)
    (div_ceil (length c.args.bytes.now) 32 - (c.rows.counter + 1)) c.rows.rest.now
    c.first_row.result.0.now c.first_row.result.1.now (omega (arith, c.div_ceil-end.ensures))
    c.first_row.ensures.row c.first_row.ensures.rest in
    Writing-more (Writing-at step c.rows.invariant) c.in_ok-write_hex_line.ensures

pub returns : goal.returns
returns g c = Writing-end (Writing-at (hex_rows-end _ c.rows.rest.now
    (omega (arith, c.div_ceil-end.ensures))) c.rows.invariant)
