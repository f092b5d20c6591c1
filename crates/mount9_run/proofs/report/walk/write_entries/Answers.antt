-- Each entry's line is written, up to the last.
use Rattle.std.proofs.lemmas.Result.{err_from_is_err_and}
use Rattle.tree_model.specs.Tree.{DirEntry}
use Rattle.tree_host.specs.TreeHosts.{tree}
use Rattle.mount9_run.proofs.Sequences.{Writing-start, Writing-more, Writing-stop, Writing-end}
use Rattle.mount9_run.proofs.Sequences.{Writing-at}
use Rattle.mount9_run.proofs.WalkLemmas.{entries-start, entries-step, entries-fewer, entries-end}
use Rattle.mount9_run.proofs.report.walk.write_entries.Goals as goal

pub entries-init : goal.entries-init
entries-init g c = Writing-at (entries-start (tree c.args.host.now) c.args.host.now.good c.args.dir)
    (Writing-start _ _)

pub returns-in_err-write_entry_line : goal.returns-in_err-write_entry_line
returns-in_err-write_entry_line g c =
    let e : DirEntry = record {
      cookie = c.in-Some.cookie;
      name = c.in-Some.name.now;
      ino =
          c.in-Some.child;
    } in
    let p = err_from_is_err_and c.from_residual.result c.from_residual.ensures.1 in rw (p.1, p.2)
    (Writing-stop _ (Writing-at (entries-step (tree c.args.host.now) c.args.host.now.good
    c.args.dir c.entries.at e c.in-Some.ensures) c.entries.invariant)
    c.in_err-write_entry_line.field-0.0 c.in_err-write_entry_line.ensures)

pub entries-smaller : goal.entries-smaller
entries-smaller g c =
    let e : DirEntry = record {
      cookie = c.in-Some.cookie;
      name = c.in-Some.name.now;
      ino =
          c.in-Some.child;
    } in
    entries-fewer (tree c.args.host.now) c.args.host.now.good c.args.dir c.entries.at e
    c.in-Some.ensures

pub entries-preserved : goal.entries-preserved
entries-preserved g c =
    let e : DirEntry = record {
      cookie = c.in-Some.cookie;
      name = c.in-Some.name.now;
      ino =
          c.in-Some.child;
    } in
    Writing-more (Writing-at (entries-step (tree c.args.host.now) c.args.host.now.good c.args.dir
    c.entries.at e c.in-Some.ensures) c.entries.invariant) c.in_ok-write_entry_line.ensures

pub returns : goal.returns
returns g c = Writing-end (Writing-at (entries-end (tree c.args.host.now) c.args.host.now.good
    c.args.dir c.entries.at c.in_default.ensures) c.entries.invariant)
