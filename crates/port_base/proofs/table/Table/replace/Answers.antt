use Rattle.std.proofs.Common.{sym, ap, ◌∙◌, IsSome, subst}
use Rattle.std.proofs.lemmas.Bool.{false≢true}
use Rattle.std.specs.FinMap as map
use Rattle.port_base.proofs.TableViews.{get_view, insert_view, either_way}
use Rattle.port_base.proofs.table.Table.replace.Goals as goal

pub returns : goal.returns
returns g c =
    let e = c.insert.ensures in
    insert_view c.self.inside.entries.entries c.insert.new.self.entries c.args.key c.args.value
    (either_way c.insert.result e.updates e.absent
    (λ none. absurd (false≢true (subst IsSome
    (ap (λ m. map.get m c.args.key) (sym c.self.view_is)
    ∙ get_view c.self.inside.entries.entries c.args.key ∙ none) c.requires)))).0
    ∙ ap (λ m. map.insert m c.args.key c.args.value) c.self.view_is
