-- What is written through the borrow of the record is the change of the map.
use Rattle.std.proofs.Common.{◌≡◌, ap, ◌∙◌, subst, OnSome}
use Rattle.std.specs.FinMap as map
use Rattle.tree_model.specs.Making.{changed}
use Rattle.tree_model.specs.Unlinking.{one_name_less}
use Rattle.tree_host.proofs.nodes.removals.name_less.Goals as goal

pub returns-in-Some : goal.returns-in-Some
returns-in-Some c =
    let rs = c.args.nodes.now in
    let i = c.args.ino in
    let w = c.name_less.new.self in
    subst (λ o. OnSome o (c.get_mut.follows.lender w ≡ map.insert rs i w)) c.in-Some.is
    (c.get_mut.follows.holds w)
    ∙ ap (λ r. map.insert rs i r) c.name_less.ensures
    ∙ ap (λ o. changed (one_name_less c.args.moment) o rs i) c.in-Some.ensures.value
