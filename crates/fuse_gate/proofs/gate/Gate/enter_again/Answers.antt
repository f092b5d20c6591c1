-- The attributes, and then one more in the count.
use Rattle.std.proofs.Common.{arith}
use Rattle.fuse_gate.proofs.Asking.{fid_tells}
use Rattle.fuse_gate.proofs.Standings.{node_below}
use Rattle.fuse_gate.proofs.Showing.{some_value}
use Rattle.fuse_gate.proofs.EnteringAgain.{again_fid, again_known, again_refused, again_entered}
use Rattle.fuse_gate.proofs.gate.Gate.enter_again.Goals as goal

pub overflow_cast-id : goal.overflow_cast-id
overflow_cast-id g c =
    let k = some_value _ c.requires.known in
    let low = node_below c.requires.stands c.args.id k.0 k.1 in
    omega arith

pub show-requires-clause-known : goal.show-requires-clause-known
show-requires-clause-known g c = again_known (g.N.Nine.at c.args.nine.now) c.args.id c.requires

pub returns-in-Ok-clause-served : goal.returns-in-Ok-clause-served
returns-in-Ok-clause-served g c =
    again_entered (g.N.Nine.at c.args.nine.now) c.args.id c.requires c.show.new.self
    (g.N.Nine.at c.show.new.nine) c.in_ok-attr.ensures.counted c.in_ok-attr.ensures.answer.asked
    c.in_ok-attr.field-0
    (fid_tells c.in_ok-attr.ensures.answer _ (again_fid (g.N.Nine.at c.args.nine.now) c.args.id
    c.requires)) c.in-Ok.attr c.in-Ok.is (g.met.N.Nine.good c.show.new.nine) _ c.count_up.ensures

pub returns-in-Err-clause-served : goal.returns-in-Err-clause-served
returns-in-Err-clause-served g c =
    again_refused (g.N.Nine.at c.args.nine.now) c.args.id c.requires c.show.new.self
    (g.N.Nine.at c.show.new.nine) c.in_ok-attr.ensures.counted c.in_ok-attr.ensures.answer.asked
    c.in_ok-attr.field-0
    (fid_tells c.in_ok-attr.ensures.answer _ (again_fid (g.N.Nine.at c.args.nine.now) c.args.id
    c.requires)) c.in-Err.errno c.in-Err.is
