-- The first entry is that of the least key; without it the map is the one that is left.
use Rattle.std.proofs.Common.{sym, ap, ◌∙◌}
use Rattle.std.specs.FinMap as map
use Rattle.port_base.proofs.TableViews.{get_view, remove_view, some_then, none_below, none_then}
use Rattle.port_base.proofs.table.Table.pop_first.Goals as goal

pub returns-clause-value : goal.returns-clause-value
returns-clause-value g c = some_then c.pop_first.result
    (λ e had. ap (λ m. map.get m e.0) (sym c.self.view_is)
    ∙ get_view c.self.inside.entries.entries e.0 ∙ had)
    c.pop_first.ensures.value

pub returns-clause-removed : goal.returns-clause-removed
returns-clause-removed g c = some_then c.pop_first.result
    (λ e gone. remove_view c.self.inside.entries.entries c.pop_first.new.self.entries e.0 gone.0
    ∙ ap (λ m. map.remove m e.0) c.self.view_is)
    c.pop_first.ensures.updates

pub returns-clause-least : goal.returns-clause-least
returns-clause-least g c = some_then c.pop_first.result
    (λ e low k lt. ap (λ m. map.get m k) (sym c.self.view_is)
    ∙ none_below c.self.inside.entries.entries e.0 k low lt)
    c.pop_first.ensures.least

pub returns-clause-none : goal.returns-clause-none
returns-clause-none g c = none_then c.pop_first.result c.self.inside.entries.entries
    c.pop_first.new.self.entries _ c.pop_first.ensures.variant.1 c.pop_first.ensures.unchanged
    c.self.view_is
