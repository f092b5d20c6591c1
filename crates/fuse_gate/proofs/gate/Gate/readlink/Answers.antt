-- A node is refused that isn't there; else it is asked about.
use Rattle.std.proofs.Common.{sym, subst, arith, refl}
use Rattle.fuse_wire.specs.Request.{readlink}
use Rattle.tree_machine.specs.Core.{bytes_reply}
use Rattle.tree_machine.specs.Replies.{Reply}
use Rattle.fuse_gate.specs.Steps.{ServesRequest}
use Rattle.fuse_gate.proofs.Asking.{ok_map, on_err}
use Rattle.fuse_gate.proofs.Standings.{node_below, none_there, some_there}
use Rattle.fuse_gate.proofs.Serving.{refused_before}
use Rattle.fuse_gate.proofs.Querying.{shown_served, node_unknown, node_known}
use Rattle.fuse_gate.proofs.Querying.{target_effect, shown_same}
use Rattle.fuse_gate.proofs.gate.Gate.readlink.Goals as goal

pub returns-then-not-contains_key-clause-served : goal.returns-then-not-contains_key-clause-served
returns-then-not-contains_key-clause-served g c =
    refused_before c.requires (g.met.N.Nine.good c.args.nine.now) c.args.node readlink _
    (node_unknown (g.N.Nine.at c.args.nine.now) c.requires c.args.node
    (none_there _ (sym c.if-not-contains_key.ensures)))

pub overflow_cast-node : goal.overflow_cast-node
overflow_cast-node g c =
    let k = some_there _ (sym c.if-not-contains_key.ensures) in
    let low = node_below c.requires c.args.node k.0 k.1 in
    omega arith

pub returns-clause-served : goal.returns-clause-served
returns-clause-served g c =
    let k = some_there _ (sym c.if-not-contains_key.ensures) in
    ok_map c.target_reply.result _ _
    (λ r is. subst (λ (x : Reply). ServesRequest c.args.node readlink
    (c.args.self.now, g.N.Nine.at c.args.nine.now)
    (c.count_message.new.self, g.N.Nine.at c.read_link.new.nine) x) (sym is)
    (shown_served (g.N.Nine.at c.args.nine.now) c.requires (g.met.N.Nine.good c.args.nine.now)
    c.args.node readlink bytes_reply refl _
    (node_known (g.N.Nine.at c.args.nine.now) c.requires c.args.node k.0 k.1)
    (target_effect (g.N.Nine.at c.args.nine.now) c.requires c.args.node k.0 k.1
    (g.met.N.Nine.good c.args.nine.now)) refl
    _ (g.N.Nine.at c.read_link.new.nine) _ c.in_ok-told.told refl
    c.count_message.ensures c.in_ok-told.ensures.kept.rises c.in_ok-told.ensures.answer))
    c.target_reply.ensures

pub returns-clause-unfinished : goal.returns-clause-unfinished
returns-clause-unfinished g c =
    on_err c.target_reply.result _ (shown_same c.in_ok-told.ensures.answer)
