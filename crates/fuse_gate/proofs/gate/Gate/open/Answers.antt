-- The refusals in order, and then the opening.
use Rattle.std.proofs.Common.{sym, ◌∙◌, arith}
use Rattle.fuse_wire.specs.Request.{open_file}
use Rattle.fuse_gate.specs.Replies.{reply_of}
use Rattle.fuse_gate.proofs.Asking.{ok_map, err_map}
use Rattle.fuse_gate.proofs.Standings.{node_below}
use Rattle.fuse_gate.proofs.Serving.{refused_before}
use Rattle.fuse_gate.proofs.Opening.{open_unknown, open_full, open_directory}
use Rattle.fuse_gate.proofs.Opening.{may_open, part_is, open_served}
use Rattle.fuse_gate.proofs.gate.Gate.open.Goals as goal

pub returns-in_default-clause-served : goal.returns-in_default-clause-served
returns-in_default-clause-served g c =
    refused_before c.requires (g.met.N.Nine.good c.args.nine.now) c.args.node
    (open_file c.args.flags) _ (open_unknown (g.N.Nine.at c.args.nine.now) c.requires
    (g.met.N.Nine.good c.args.nine.now) c.args.node c.args.flags
    (sym (c.in_default.ensures ∙ c.get.ensures)))

pub returns-then-is_full-clause-served : goal.returns-then-is_full-clause-served
returns-then-is_full-clause-served g c =
    refused_before c.requires (g.met.N.Nine.good c.args.nine.now) c.args.node
    (open_file c.args.flags) _ (open_full (g.N.Nine.at c.args.nine.now) c.requires
    (g.met.N.Nine.good c.args.nine.now) c.args.node c.args.flags
    c.in-Some.found (sym (c.in-Some.ensures ∙ c.get.ensures)) c.if-is_full.ensures.full)

pub returns-then-found-clause-served : goal.returns-then-found-clause-served
returns-then-found-clause-served g c =
    refused_before c.requires (g.met.N.Nine.good c.args.nine.now) c.args.node
    (open_file c.args.flags) _ (open_directory (g.N.Nine.at c.args.nine.now) c.requires
    (g.met.N.Nine.good c.args.nine.now) c.args.node c.args.flags
    c.in-Some.found (sym (c.in-Some.ensures ∙ c.get.ensures)) c.if-is_full.ensures.full
    c.if-found.true)

pub overflow_cast-node : goal.overflow_cast-node
overflow_cast-node g c = let low = node_below c.requires c.args.node c.in-Some.found
    (sym (c.in-Some.ensures ∙ c.get.ensures)) in omega arith

pub open_node-requires : goal.open_node-requires
open_node-requires g c =
    may_open (g.N.Nine.at c.args.nine.now) c.requires (g.met.N.Nine.good c.args.nine.now)
    c.args.node c.args.flags c.in-Some.found
    (sym (c.in-Some.ensures ∙ c.get.ensures)) c.if-is_full.ensures.full c.if-found.false
    c.if-is_full.ensures.small

pub returns-clause-served : goal.returns-clause-served
returns-clause-served g c =
    ok_map c.open_node.result _ _
    (λ r served. open_served (g.N.Nine.at c.args.nine.now) c.requires
    (g.met.N.Nine.good c.args.nine.now) c.args.node c.args.flags
    c.in-Some.found (sym (c.in-Some.ensures ∙ c.get.ensures)) c.if-is_full.ensures.full
    c.if-found.false _ (reply_of r) served)
    c.open_node.ensures.served

pub returns-clause-unfinished : goal.returns-clause-unfinished
returns-clause-unfinished g c =
    err_map c.open_node.result _ _
    (λ left. part_is (g.N.Nine.at c.args.nine.now) c.requires
    (g.met.N.Nine.good c.args.nine.now) c.args.node c.args.flags
    c.in-Some.found (sym (c.in-Some.ensures ∙ c.get.ensures)) c.if-is_full.ensures.full
    c.if-found.false _ left)
    c.open_node.ensures.unfinished
