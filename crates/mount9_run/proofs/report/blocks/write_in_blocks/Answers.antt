-- What the blocks were sent, the sink below was sent once what waits is written.
use Rattle.std.proofs.Common.{◌≡◌, ℕ, List, sym, subst, ◌∙◌}
use Rattle.tree_model.specs.Tree.{linked}
use Rattle.tree_host.specs.TreeHosts.{tree}
use Rattle.mount9_run.specs.Report.{report}
use Rattle.mount9_run.specs.Outcome.{mount_table}
use Rattle.mount9_run.specs.Wrote.{Wrote, at_sink}
use Rattle.mount9_run.proofs.InBlocks.{Wrote-in-blocks, same_name}
use Rattle.mount9_run.proofs.report.blocks.write_in_blocks.Goals as goal

pub returns : goal.returns
returns g c =
    let text : List ℕ = report c.args.replies.now c.args.verdict.now (linked (tree c.args.host.now))
    mount_table in
    let b0 = c.new-blocks.result in
    let b1 = c.write_whole-written.new.out in
    let e = c.finish-finished.ensures in
    let last : g.row.K.Denot = c.finish-finished.new.self.0 in
    let wrote : Wrote (at_sink (g.K.Sink.sent c.new-blocks.result.inner.now)
    (g.K.Sink.faults c.new-blocks.result.inner.now)
    (g.K.Sink.kept c.new-blocks.result.inner.now))
    (at_sink (g.K.Sink.sent last) (g.K.Sink.faults last) (g.K.Sink.kept last)) text
    c.joined_faults.result =
    subst (λ (r : _). Wrote (at_sink (g.K.Sink.sent c.new-blocks.result.inner.now)
    (g.K.Sink.faults c.new-blocks.result.inner.now)
    (g.K.Sink.kept c.new-blocks.result.inner.now))
    (at_sink (g.K.Sink.sent last) (g.K.Sink.faults last) (g.K.Sink.kept last)) text r)
    (sym c.joined_faults.ensures)
    (Wrote-in-blocks (g.K.Sink.sent b0.inner.now) (g.K.Sink.sent b1.inner.now) (g.K.Sink.sent last)
    b0.waiting.now.items b1.waiting.now.items text b0.gone b1.gone b0.passed b1.passed
    (g.K.Sink.faults b0.inner.now) (g.K.Sink.faults b1.inner.now) (g.K.Sink.faults last)
    (g.K.Sink.kept b0.inner.now) (g.K.Sink.kept b1.inner.now) (g.K.Sink.kept last)
    b0.inner.ghost_name b1.inner.ghost_name
    c.write_whole-written.result c.finish-finished.result
    c.new-blocks.ensures.waiting c.new-blocks.ensures.gone c.new-blocks.ensures.passed
    c.write_whole-written.ensures e.ok e.err e.cause e.kept) in
    let same : b1.inner.ghost_name ≡ b0.inner.ghost_name =
    same_name (g.K.Sink.sent b0.inner.now) (g.K.Sink.sent b1.inner.now) (g.K.Sink.sent last)
    b0.waiting.now.items b1.waiting.now.items text b0.gone b1.gone b0.passed b1.passed
    (g.K.Sink.faults b0.inner.now) (g.K.Sink.faults b1.inner.now) (g.K.Sink.faults last)
    (g.K.Sink.kept b0.inner.now) (g.K.Sink.kept b1.inner.now) (g.K.Sink.kept last)
    b0.inner.ghost_name b1.inner.ghost_name
    c.write_whole-written.result c.finish-finished.result
    c.write_whole-written.ensures in
    let final : c.out-1.given.0 ≡ last = c.out-1.given.1
    (sym (same ∙ c.new-blocks.ensures.same_reference)) in
    subst (λ (p : g.row.K.Denot × g.row.K.Denot). Wrote
    (at_sink (g.K.Sink.sent p.0) (g.K.Sink.faults p.0) (g.K.Sink.kept p.0))
    (at_sink (g.K.Sink.sent p.1) (g.K.Sink.faults p.1) (g.K.Sink.kept p.1)) text
    c.joined_faults.result)
    (λ j. (c.new-blocks.ensures.inner j, sym final j)) wrote
