-- One path is stripped from the other and nothing is left exactly where they have the same
-- components.
use Rattle.std.proofs.Common.{◌∙◌, ap}
use Rattle.port_base.specs.Paths.{components, same_path}
use Rattle.port_base.proofs.PathWalks.{is_all, is_some-ends, same_path-decides, strip-same}
use Rattle.port_base.proofs.paths.same_path.Goals as goal

pub returns-in-Some-clause-value : goal.returns-in-Some-clause-value
unfolding same_path
returns-in-Some-clause-value c =
    is_some-ends c.next.result _ _ _ c.is_none.ensures c.next.ensures.steps
    ∙ ap is_all c.in-Some.ensures
    ∙ (rw (c.new.ensures, c.new-2.ensures) (strip-same (components c.args.b.now)
    (components c.args.a.now)))

pub returns-in-None-clause-value : goal.returns-in-None-clause-value
unfolding same_path
returns-in-None-clause-value c =
    ap is_all c.in-None.ensures
    ∙ (rw (c.new.ensures, c.new-2.ensures) (strip-same (components c.args.b.now)
    (components c.args.a.now)))

pub returns-in-Some-clause-components : goal.returns-in-Some-clause-components
returns-in-Some-clause-components c = same_path-decides c.args.a.now c.args.b.now c.is_none.result
    (returns-in-Some-clause-value c)

pub returns-in-None-clause-components : goal.returns-in-None-clause-components
returns-in-None-clause-components c = same_path-decides c.args.a.now c.args.b.now _
    (returns-in-None-clause-value c)
