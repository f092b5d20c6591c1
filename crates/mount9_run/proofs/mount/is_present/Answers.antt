-- A path that is the target is found, or none is.
use Rattle.std.proofs.Common.{sym, ◌∙◌}
use Rattle.std.specs.Prelude.{codes}
use Rattle.port_base.specs.Paths.{same_path}
use Rattle.mount9_run.proofs.Presence.{any-more, present-found}
use Rattle.mount9_run.proofs.mount.is_present.Goals as goal

pub returns-then-same_path-2 : goal.returns-then-same_path-2
returns-then-same_path-2 c = present-found (same_path c.args.target.now (codes "/"))
    (λ path. same_path c.args.target.now path) c.args.present.now c.paths.i c.in-Some.path.now
    (sym c.in-Some.ensures) c.paths.invariant (sym c.if-same_path-2.ensures.value)

pub paths-preserved : goal.paths-preserved
paths-preserved c = c.paths.invariant ∙ any-more (λ path. same_path c.args.target.now path)
    c.args.present.now c.paths.i c.in-Some.path.now (sym c.in-Some.ensures)
    (sym c.if-same_path-2.ensures.value)
