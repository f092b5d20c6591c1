-- The bytes and the line feed follow the front.
use Rattle.std.proofs.Common.{sym}
use Rattle.std.proofs.lemmas.Result.{err_from_is_err_and}
use Rattle.tree_model.specs.Reading.{bytes_at}
use Rattle.tree_host.specs.TreeHosts.{tree}
use Rattle.mount9_run.proofs.Sequences.{Wrote-then, Wrote-stopped, Wrote-at}
use Rattle.mount9_run.proofs.FileLines.{file_line-head}
use Rattle.mount9_run.proofs.report.walk.write_file.Goals as goal

pub returns-in_err-write_file_head : goal.returns-in_err-write_file_head
returns-in_err-write_file_head g c = let p = err_from_is_err_and c.from_residual.result
    c.from_residual.ensures.1 in rw (p.1, p.2)
    (Wrote-at (sym (file_line-head c.args.attr.now
    (bytes_at (tree c.args.host.now) c.args.attr.now.ino)))
    (Wrote-stopped _ c.in_err-write_file_head.ensures))

pub returns-in_err-write_bytes : goal.returns-in_err-write_bytes
returns-in_err-write_bytes g c = let p = err_from_is_err_and
    c.from_residual-in_err-write_bytes.result c.from_residual-in_err-write_bytes.ensures.1 in rw
    (p.1, p.2) (Wrote-at (sym (file_line-head c.args.attr.now
    (bytes_at (tree c.args.host.now) c.args.attr.now.ino)))
    (Wrote-then c.in_ok-write_file_head.ensures (Wrote-stopped _ c.in_err-write_bytes.ensures)))

pub returns : goal.returns
returns g c = Wrote-at (sym (file_line-head c.args.attr.now
    (bytes_at (tree c.args.host.now) c.args.attr.now.ino)))
    (Wrote-then c.in_ok-write_file_head.ensures
    (Wrote-then c.in_ok-write_bytes.ensures c.write_text.ensures))
