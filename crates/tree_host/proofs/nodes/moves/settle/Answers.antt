-- What is written through the borrow of the record is the change of the map.
use Rattle.std.proofs.Common.{◌≡◌, ap, ◌∙◌, subst, OnSome}
use Rattle.std.specs.FinMap as map
use Rattle.tree_model.specs.Making.{changed}
use Rattle.tree_model.specs.Renaming.{moved_below}
use Rattle.tree_host.proofs.nodes.moves.settle.Goals as goal

pub returns-in-Some : goal.returns-in-Some
returns-in-Some c =
    let rs = c.args.nodes.now in
    let i = c.args.ino in
    let w = c.settle.new.self in
    subst (λ o. OnSome o (c.get_mut.follows.lender w ≡ map.insert rs i w)) c.in-Some.is
    (c.get_mut.follows.holds w)
    ∙ ap (λ r. map.insert rs i r) c.settle.ensures
    ∙ ap (λ o. changed (moved_below c.args.moment c.args.dir) o rs i) c.in-Some.ensures.value
