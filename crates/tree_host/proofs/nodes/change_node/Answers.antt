-- What is written through the borrow of the record is the change of the map.
use Rattle.std.proofs.Common.{◌≡◌, subst, OnSome}
use Rattle.std.specs.FinMap as map
use Rattle.tree_host.specs.Changing.{change_refused, changed_by}
use Rattle.tree_host.proofs.Making.{made_at}
use Rattle.tree_host.proofs.nodes.change_node.Goals as goal

pub returns-in-Some-clause-made : goal.returns-in-Some-clause-made
returns-in-Some-clause-made c =
    let rs = c.args.nodes.now in
    let i = c.args.ino in
    let w = c.change.new.self in
    made_at (change_refused c.args.wanted c.args.limit) (changed_by c.args.wanted c.args.moment) rs
    _ i c.in-Some.node.now w c.change.result c.in-Some.ensures.value
    (subst (λ o. OnSome o (c.get_mut.follows.lender w ≡ map.insert rs i w)) c.in-Some.is
    (c.get_mut.follows.holds w)) c.change.ensures.made
