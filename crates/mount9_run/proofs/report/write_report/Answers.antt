-- The texts follow one another.
use Rattle.std.proofs.Common.{ap}
use Rattle.std.proofs.lemmas.Result.{err_from_is_err_and}
use Rattle.mount9_run.proofs.Sequences.{Wrote-then, Wrote-stopped, Wrote-at}
use Rattle.mount9_run.specs.Report.{closing}
use Rattle.mount9_run.proofs.report.write_report.Goals as goal

pub returns-in_err-write_verdict : goal.returns-in_err-write_verdict
returns-in_err-write_verdict g c = let p = err_from_is_err_and c.from_residual.result
    c.from_residual.ensures.1 in rw (p.1, p.2) (Wrote-stopped _ c.in_err-write_verdict.ensures)

pub returns-in_err-write_tree : goal.returns-in_err-write_tree
returns-in_err-write_tree g c = let p = err_from_is_err_and c.from_residual-in_err-write_tree.result
    c.from_residual-in_err-write_tree.ensures.1 in rw (p.1, p.2)
    (Wrote-then c.in_ok-write_verdict.ensures (Wrote-stopped _ c.in_err-write_tree.ensures))

pub returns : goal.returns
returns g c = Wrote-then c.in_ok-write_verdict.ensures
    (Wrote-then c.in_ok-write_tree.ensures (Wrote-at
    (ap (closing c.args.mounts.now) c.nine_frames.ensures) c.write_closing.ensures))
