use Rattle.std.proofs.Common.{sym, ap, ◌∙◌, IsSome, subst}
use Rattle.std.proofs.lemmas.Bool.{false≢true}
use Rattle.std.specs.FinMap as map
use Rattle.port_base.proofs.TableViews.{get_view, insert_view}
use Rattle.port_base.proofs.table.Table.insert.Goals as goal

pub returns-in_err-insert-clause-present : goal.returns-in_err-insert-clause-present
returns-in_err-insert-clause-present g c h =
    absurd (false≢true (subst IsSome (ap (λ m. map.get m c.args.key) (sym c.self.view_is)
    ∙ get_view c.self.inside.entries.entries c.args.key ∙ c.in_err-insert.ensures.absent) h))

pub returns-clause-ok : goal.returns-clause-ok
returns-clause-ok g c = insert_view c.self.inside.entries.entries c.insert.new.self.entries
    c.args.key c.args.value c.in_ok-insert.ensures.updates.0
    ∙ ap (λ m. map.insert m c.args.key c.args.value) c.self.view_is
