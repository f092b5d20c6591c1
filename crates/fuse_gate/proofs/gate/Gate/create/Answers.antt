-- The refusals in order, and then the file that is made in the node.
use Rattle.std.proofs.Common.{sym, arith, ◌∙◌}
use Rattle.fuse_wire.specs.Request.{create}
use Rattle.fuse_gate.specs.Replies.{reply_of}
use Rattle.fuse_gate.proofs.Asking.{ok_map, err_map}
use Rattle.fuse_gate.proofs.Standings.{node_below}
use Rattle.fuse_gate.proofs.Serving.{refused_before}
use Rattle.fuse_gate.proofs.Creations.{create_unknown, create_fault, create_full}
use Rattle.fuse_gate.proofs.Creations.{part_is, create_served}
use Rattle.fuse_gate.proofs.gate.Gate.create.Goals as goal

pub returns-in_default-clause-served : goal.returns-in_default-clause-served
returns-in_default-clause-served g c =
    refused_before c.requires (g.met.N.Nine.good c.args.nine.now) c.args.node
    (create c.args.flags c.args.mode c.args.name.now) _ (create_unknown (g.N.Nine.at c.args.nine.now) c.requires (g.met.N.Nine.good c.args.nine.now)
    c.args.node c.args.flags c.args.mode c.args.name.now
    (sym (c.in_default.ensures ∙ c.get.ensures)))

pub returns-in-Some-name_fault-clause-served : goal.returns-in-Some-name_fault-clause-served
returns-in-Some-name_fault-clause-served g c =
    refused_before c.requires (g.met.N.Nine.good c.args.nine.now) c.args.node
    (create c.args.flags c.args.mode c.args.name.now) _ (create_fault (g.N.Nine.at c.args.nine.now) c.requires (g.met.N.Nine.good c.args.nine.now)
    c.args.node c.args.flags c.args.mode c.args.name.now
    c.in-Some.found (sym (c.in-Some.ensures ∙ c.get.ensures)) c.in-Some-name_fault.errno c.in-Some-name_fault.ensures)

pub returns-then-lacks_two-clause-served : goal.returns-then-lacks_two-clause-served
returns-then-lacks_two-clause-served g c =
    refused_before c.requires (g.met.N.Nine.good c.args.nine.now) c.args.node
    (create c.args.flags c.args.mode c.args.name.now) _ (create_full (g.N.Nine.at c.args.nine.now) c.requires (g.met.N.Nine.good c.args.nine.now)
    c.args.node c.args.flags c.args.mode c.args.name.now
    c.in-Some.found (sym (c.in-Some.ensures ∙ c.get.ensures)) c.in_default-name_fault.ensures c.if-lacks_two.ensures.full)

pub overflow_cast-node : goal.overflow_cast-node
overflow_cast-node g c =
    let low = node_below c.requires c.args.node c.in-Some.found (sym (c.in-Some.ensures ∙ c.get.ensures)) in
    omega arith

pub returns-clause-served : goal.returns-clause-served
returns-clause-served g c =
    ok_map c.create_in.result _ _
    (λ r served. create_served (g.N.Nine.at c.args.nine.now) c.requires (g.met.N.Nine.good c.args.nine.now)
    c.args.node c.args.flags c.args.mode c.args.name.now
    c.in-Some.found (sym (c.in-Some.ensures ∙ c.get.ensures)) c.in_default-name_fault.ensures c.if-lacks_two.ensures.full _ (reply_of r) served)
    c.create_in.ensures.served

pub returns-clause-unfinished : goal.returns-clause-unfinished
returns-clause-unfinished g c =
    err_map c.create_in.result _ _
    (λ left. part_is (g.N.Nine.at c.args.nine.now) c.requires (g.met.N.Nine.good c.args.nine.now)
    c.args.node c.args.flags c.args.mode c.args.name.now
    c.in-Some.found (sym (c.in-Some.ensures ∙ c.get.ensures)) c.in_default-name_fault.ensures c.if-lacks_two.ensures.full _ left)
    c.create_in.ensures.unfinished
