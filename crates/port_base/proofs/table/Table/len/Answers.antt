use Rattle.std.proofs.Common.{sym, ap, ◌∙◌}
use Rattle.std.specs.FinMap as map
use Rattle.port_base.proofs.TableViews.{len_view}
use Rattle.port_base.proofs.table.Table.len.Goals as goal

pub returns : goal.returns
returns g c = c.len.ensures.len ∙ sym (len_view c.self.inside.entries.entries c.len.ensures.ordered)
    ∙ ap map.len c.self.view_is
