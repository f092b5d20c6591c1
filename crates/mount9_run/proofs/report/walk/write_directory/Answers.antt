-- The entries follow the line.
use Rattle.std.proofs.Common.{◌≡◌, ℕ, ap, ◌∙◌}
use Rattle.std.proofs.lemmas.Result.{err_from_is_err_and}
use Rattle.tree_model.specs.Reading.{above_of, next_cookie_of}
use Rattle.tree_host.specs.TreeHosts.{tree}
use Rattle.mount9_run.specs.ReportLines.{directory_line}
use Rattle.mount9_run.proofs.Sequences.{Wrote-then, Wrote-stopped, Wrote-at}
use Rattle.mount9_run.proofs.report.walk.write_directory.Goals as goal

pub returns-in_err-write_directory_line : goal.returns-in_err-write_directory_line
returns-in_err-write_directory_line g c =
    let a = c.args.attr.now in
    let line : directory_line a c.above-above.result c.next_cookie-next_cookie.result
    ≡ directory_line a (above_of (tree c.args.host.now) a.ino)
    (next_cookie_of (tree c.args.host.now) a.ino) =
    ap (λ (n : ℕ). directory_line a n c.next_cookie-next_cookie.result) c.above-above.ensures
    ∙ ap (directory_line a (above_of (tree c.args.host.now) a.ino))
    c.next_cookie-next_cookie.ensures in
    let p = err_from_is_err_and c.from_residual.result c.from_residual.ensures.1 in rw (p.1, p.2)
    (Wrote-stopped _ (Wrote-at line c.in_err-write_directory_line.ensures))

pub returns : goal.returns
returns g c =
    let a = c.args.attr.now in
    let line : directory_line a c.above-above.result c.next_cookie-next_cookie.result
    ≡ directory_line a (above_of (tree c.args.host.now) a.ino)
    (next_cookie_of (tree c.args.host.now) a.ino) =
    ap (λ (n : ℕ). directory_line a n c.next_cookie-next_cookie.result) c.above-above.ensures
    ∙ ap (directory_line a (above_of (tree c.args.host.now) a.ino))
    c.next_cookie-next_cookie.ensures in
    Wrote-then (Wrote-at line c.in_ok-write_directory_line.ensures) c.write_entries.ensures
