use Rattle.std.proofs.Common.{sym, ap, ◌∙◌, is_some}
use Rattle.std.specs.FinMap as map
use Rattle.port_base.proofs.TableViews.{get_view}
use Rattle.port_base.proofs.table.Table.contains_key.Goals as goal

pub returns : goal.returns
returns g c = c.contains_key.ensures ∙ ap is_some
    (sym (get_view c.self.inside.entries.entries c.args.key)
    ∙ ap (λ m. map.get m c.args.key) c.self.view_is)
