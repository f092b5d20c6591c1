-- An owner's pair, as a finite map has it.
use Rattle.std.proofs.Common.{◌∙◌, ap, sym, unwrap_or}
use Rattle.port_base.proofs.TableViews.{get_view}
use Rattle.p9_server.proofs.share.mapped.Goals as goal

pub returns-in-Some : goal.returns-in-Some
returns-in-Some c =
    let had = c.in-Some.ensures.value in
    ap (λ o. unwrap_or o c.args.id) (had ∙ sym (get_view c.args.ids.now.entries c.args.id))

pub returns-in-None : goal.returns-in-None
returns-in-None c =
    let none = c.in-None.ensures.value in
    ap (λ o. unwrap_or o c.args.id) (none ∙ sym (get_view c.args.ids.now.entries c.args.id))
