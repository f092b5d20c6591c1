-- What is written through the borrow of the record is the change of the map.
use Rattle.std.proofs.Common.{◌≡◌, ap, ◌∙◌, subst, OnSome}
use Rattle.std.specs.FinMap as map
use Rattle.tree_model.specs.Making.{changed}
use Rattle.tree_model.specs.Unlinking.{parted_by}
use Rattle.tree_host.proofs.nodes.removals.part_from.Goals as goal

pub returns-in-Some : goal.returns-in-Some
returns-in-Some c =
    let rs = c.args.nodes.now in
    let i = c.args.dir in
    let w = c.part.new.self in
    subst (λ o. OnSome o (c.get_mut.follows.lender w ≡ map.insert rs i w)) c.in-Some.is
    (c.get_mut.follows.holds w)
    ∙ ap (λ r. map.insert rs i r) c.part.ensures
    ∙ ap (λ o. changed (parted_by c.args.name.now c.args.moment) o rs i) c.in-Some.ensures.value
