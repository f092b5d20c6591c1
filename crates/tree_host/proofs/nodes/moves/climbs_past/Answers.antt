-- A step of the climb.
use Rattle.std.proofs.Common.{◌∙◌}
use Rattle.tree_host.proofs.Moving.{climb_step}
use Rattle.tree_host.proofs.nodes.moves.climbs_past.Goals as goal

pub loop-preserved : goal.loop-preserved
loop-preserved c =
    climb_step c.args.nodes.now c.args.ino c.args.steps c.loop.counter c.loop.at
    c.above_at-at.result c.loop-test.true c.if-at-ino.false c.if-at-eq-TOP.false
    c.above_at-at.ensures ∙ c.loop.invariant
