-- The records follow the line.
use Rattle.std.proofs.Common.{ap}
use Rattle.std.specs.Prelude.{codes}
use Rattle.std.proofs.lemmas.Result.{err_from_is_err_and}
use Rattle.mount9_run.specs.ReportLines.{number_line}
use Rattle.mount9_run.specs.Report.{tree_text}
use Rattle.mount9_run.proofs.Sequences.{Wrote-then, Wrote-stopped, Wrote-at}
use Rattle.mount9_run.proofs.report.walk.write_tree.Goals as goal

pub returns-in_err-write_number_line : goal.returns-in_err-write_number_line
unfolding tree_text
returns-in_err-write_number_line g c = let p =
    err_from_is_err_and c.from_residual.result c.from_residual.ensures.1 in rw (p.1, p.2)
    (Wrote-stopped _ (Wrote-at (ap (number_line (codes "tree")) c.next_ino.ensures)
    c.in_err-write_number_line.ensures))

pub returns : goal.returns
unfolding tree_text
returns g c = Wrote-then (Wrote-at (ap (number_line (codes "tree")) c.next_ino.ensures)
    c.in_ok-write_number_line.ensures) c.write_records.ensures
