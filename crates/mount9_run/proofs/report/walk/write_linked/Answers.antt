-- A record without links is not linked.
use Rattle.std.proofs.Common.{sym}
use Rattle.tree_host.specs.TreeHosts.{tree}
use Rattle.mount9_run.proofs.Sequences.{Wrote-at, Writing-start, Writing-end}
use Rattle.mount9_run.proofs.WalkLemmas.{linked_text-none, linked_text-stored}
use Rattle.mount9_run.proofs.report.walk.write_linked.Goals as goal

pub returns-then-attr-eq0 : goal.returns-then-attr-eq0
returns-then-attr-eq0 g c = Wrote-at (sym (linked_text-none (tree c.args.host.now) c.args.attr.now
    c.requires c.args.host.now.good c.if-attr-eq0.true)) (Writing-end (Writing-start _ _))

pub returns : goal.returns
returns g c = Wrote-at (sym (linked_text-stored (tree c.args.host.now) c.args.attr.now c.requires
    c.args.host.now.good c.if-attr-eq0.false)) c.write_stored.ensures
