-- The texts follow one another.
use Rattle.std.proofs.lemmas.Result.{err_from_is_err_and}
use Rattle.mount9_run.specs.Report.{closing}
use Rattle.mount9_run.proofs.Sequences.{Wrote-then, Wrote-stopped}
use Rattle.mount9_run.proofs.report.writing.write_closing.Goals as goal

pub returns-in_err-write_text : goal.returns-in_err-write_text
unfolding closing
returns-in_err-write_text g c = let p = err_from_is_err_and c.from_residual.result
    c.from_residual.ensures.1 in rw (p.1, p.2) (Wrote-stopped _ c.in_err-write_text.ensures)

pub returns-in_err-write_text-2 : goal.returns-in_err-write_text-2
unfolding closing
returns-in_err-write_text-2 g c = let p = err_from_is_err_and
    c.from_residual-in_err-write_text-2.result c.from_residual-in_err-write_text-2.ensures.1 in rw
    (p.1, p.2) (Wrote-then c.in_ok-write_text.ensures
    (Wrote-stopped _ c.in_err-write_text-2.ensures))

pub returns-in_err-write_text-3 : goal.returns-in_err-write_text-3
unfolding closing
returns-in_err-write_text-3 g c = let p = err_from_is_err_and
    c.from_residual-in_err-write_text-3.result c.from_residual-in_err-write_text-3.ensures.1 in rw
    (p.1, p.2) (Wrote-then c.in_ok-write_text.ensures
    (Wrote-then c.in_ok-write_text-2.ensures (Wrote-stopped _ c.in_err-write_text-3.ensures)))

pub returns : goal.returns
unfolding closing
returns g c = Wrote-then c.in_ok-write_text.ensures
    (Wrote-then c.in_ok-write_text-2.ensures (Wrote-then c.in_ok-write_text-3.ensures
    c.write_number_line.ensures))
