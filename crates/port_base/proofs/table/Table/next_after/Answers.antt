-- The first entry of the range above the key is the next.
use Rattle.std.proofs.Common.{ap, ◌∙◌}
use Rattle.port_base.specs.Tables.{next_after}
use Rattle.port_base.proofs.TableOrder.{next_view, no_next_view}
use Rattle.port_base.proofs.table.Table.next_after.Goals as goal

pub returns-in-Some : goal.returns-in-Some
returns-in-Some g c =
    next_view c.args.key c.self.inside.entries.entries c.range-above.ensures.ordered
    (c.in-Some.entry.0.now, c.in-Some.entry.1.now) c.next.new.self c.range-above.result
    (c.range-above.ensures.between tt) c.in-Some.ensures.steps
    ∙ ap (next_after c.args.key) c.self.view_is

pub returns-in-None : goal.returns-in-None
returns-in-None g c =
    no_next_view c.args.key c.self.inside.entries.entries c.range-above.ensures.ordered
    c.range-above.result (c.range-above.ensures.between tt) c.in-None.ensures.steps.0
    ∙ ap (next_after c.args.key) c.self.view_is
