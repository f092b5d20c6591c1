use Rattle.std.proofs.Common.{sym, ap, ◌∙◌}
use Rattle.std.specs.FinMap as map
use Rattle.port_base.proofs.TableViews.{get_view, remove_view}
use Rattle.port_base.proofs.table.Table.remove.Goals as goal

pub returns-clause-value : goal.returns-clause-value
returns-clause-value g c = c.remove.ensures.value
    ∙ sym (get_view c.self.inside.entries.entries c.args.key)
    ∙ ap (λ m. map.get m c.args.key) c.self.view_is

pub returns-clause-removed : goal.returns-clause-removed
returns-clause-removed g c = remove_view c.self.inside.entries.entries c.remove.new.self.entries
    c.args.key c.remove.ensures.updates.0 ∙ ap (λ m. map.remove m c.args.key) c.self.view_is
