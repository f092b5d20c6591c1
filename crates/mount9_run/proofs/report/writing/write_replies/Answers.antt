-- The lines of hex follow the word.
use Rattle.std.proofs.lemmas.Result.{err_from_is_err_and}
use Rattle.mount9_run.specs.Report.{replies_text}
use Rattle.mount9_run.proofs.Sequences.{Wrote-then, Wrote-stopped}
use Rattle.mount9_run.proofs.report.writing.write_replies.Goals as goal

pub returns-in_err-write_text : goal.returns-in_err-write_text
unfolding replies_text
returns-in_err-write_text g c = let p = err_from_is_err_and c.from_residual.result
    c.from_residual.ensures.1 in rw (p.1, p.2) (Wrote-stopped _ c.in_err-write_text.ensures)

pub returns : goal.returns
unfolding replies_text
returns g c = Wrote-then c.in_ok-write_text.ensures c.write_hex_lines.ensures
