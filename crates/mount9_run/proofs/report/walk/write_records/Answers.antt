-- Each record's lines are written, up to the last.
use Rattle.std.proofs.lemmas.Result.{err_from_is_err_and}
use Rattle.tree_host.specs.TreeHosts.{tree}
use Rattle.mount9_run.proofs.Sequences.{Writing-start, Writing-more, Writing-stop, Writing-end}
use Rattle.mount9_run.proofs.Sequences.{Writing-at}
use Rattle.mount9_run.proofs.WalkLemmas.{records-start, records-step, records-fewer, records-end}
use Rattle.mount9_run.proofs.WalkLemmas.{next_is_stored}
use Rattle.mount9_run.proofs.report.walk.write_records.Goals as goal

pub records-init : goal.records-init
records-init g c = Writing-at (records-start (tree c.args.host.now) c.args.host.now.good)
    (Writing-start _ _)

pub write_linked-requires : goal.write_linked-requires
write_linked-requires g c = next_is_stored (tree c.args.host.now) c.args.host.now.good c.records.at
    c.in-Some.attr c.in-Some.ensures

pub returns-in_err-write_linked : goal.returns-in_err-write_linked
returns-in_err-write_linked g c = let p = err_from_is_err_and c.from_residual.result
    c.from_residual.ensures.1 in rw (p.1, p.2)
    (Writing-stop _ (Writing-at (records-step (tree c.args.host.now) c.args.host.now.good
    c.records.at c.in-Some.attr c.in-Some.ensures) c.records.invariant)
    c.in_err-write_linked.field-0.0 c.in_err-write_linked.ensures)

pub records-smaller : goal.records-smaller
records-smaller g c = records-fewer (tree c.args.host.now) c.args.host.now.good c.records.at
    c.in-Some.attr c.in-Some.ensures

pub records-preserved : goal.records-preserved
records-preserved g c = Writing-more (Writing-at
    (records-step (tree c.args.host.now) c.args.host.now.good c.records.at c.in-Some.attr
    c.in-Some.ensures) c.records.invariant) c.in_ok-write_linked.ensures

pub returns : goal.returns
returns g c = Writing-end (Writing-at (records-end (tree c.args.host.now) c.args.host.now.good
    c.records.at c.in_default.ensures) c.records.invariant)
