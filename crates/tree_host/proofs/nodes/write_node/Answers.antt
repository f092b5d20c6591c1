-- What is written through the borrow of the record is the change of the map.
use Rattle.std.proofs.Common.{◌≡◌, subst, OnSome}
use Rattle.std.specs.FinMap as map
use Rattle.tree_model.specs.Attributing.{write_refused, overwritten_at, fitting}
use Rattle.tree_host.proofs.Making.{made_at}
use Rattle.tree_host.proofs.nodes.write_node.Goals as goal

pub returns-in-Some : goal.returns-in-Some
returns-in-Some c =
    let a = c.args in
    let rs = a.nodes.now in
    let w = c.write.new.self in
    made_at (write_refused a.limit a.offset a.new.now)
    (overwritten_at a.moment a.offset (fitting a.limit a.offset a.new.now)) rs _ a.ino
    c.in-Some.node.now w c.write.result c.in-Some.ensures.value
    (subst (λ o. OnSome o (c.get_mut.follows.lender w ≡ map.insert rs a.ino w)) c.in-Some.is
    (c.get_mut.follows.holds w)) c.write.ensures
