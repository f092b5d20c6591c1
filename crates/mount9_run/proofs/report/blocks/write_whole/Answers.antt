-- The replies, and then the rest of the report.
use Rattle.std.proofs.lemmas.Result.{err_from_is_err_and}
use Rattle.mount9_run.specs.Report.{report}
use Rattle.mount9_run.proofs.Sequences.{Wrote-then, Wrote-stopped}
use Rattle.mount9_run.proofs.report.blocks.write_whole.Goals as goal

pub returns-in_err-write_replies : goal.returns-in_err-write_replies
unfolding report
returns-in_err-write_replies g c = let p = err_from_is_err_and c.from_residual.result
    c.from_residual.ensures.1 in rw (p.1, p.2) (Wrote-stopped _ c.in_err-write_replies.ensures)

pub returns : goal.returns
unfolding report
returns g c = Wrote-then c.in_ok-write_replies.ensures c.write_report.ensures
