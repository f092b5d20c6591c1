-- The root and an unknown node are passed over; a node counts less, or goes with its fid.
use Rattle.std.proofs.Common.{◌≤◌, sym, ap, ◌∙◌, subst, arith}
use Rattle.fuse_gate.specs.Changes.{without_node}
use Rattle.fuse_gate.specs.declared.gate.Gate.{Gate}
use Rattle.fuse_gate.proofs.Asking.{on_err}
use Rattle.fuse_gate.proofs.Standings.{node_below}
use Rattle.fuse_gate.proofs.Going.{used_some}
use Rattle.fuse_gate.proofs.LettingGo.{root_left, unknown_left, less_left, node_left, node_part}
use Rattle.fuse_gate.proofs.gate.Gate.forget.Goals as goal

pub returns-then-id-eq-FUSE_ROOT_ID-clause-gone : goal.returns-then-id-eq-FUSE_ROOT_ID-clause-gone
returns-then-id-eq-FUSE_ROOT_ID-clause-gone g c =
    root_left (g.N.Nine.at c.args.nine.now) c.requires (g.met.N.Nine.good c.args.nine.now) c.args.id
    c.args.number c.if-id-eq-FUSE_ROOT_ID.true

pub returns-in_default-clause-gone : goal.returns-in_default-clause-gone
returns-in_default-clause-gone g c = unknown_left (g.N.Nine.at c.args.nine.now) c.requires
    (g.met.N.Nine.good c.args.nine.now) c.args.id c.args.number
    (sym (c.in_default.ensures ∙ c.get.ensures))

pub returns-then-node-number-clause-gone : goal.returns-then-node-number-clause-gone
returns-then-node-number-clause-gone g c =
    less_left (g.N.Nine.at c.args.nine.now) c.requires (g.met.N.Nine.good c.args.nine.now) c.args.id
    c.args.number c.in-Some.node (sym (c.in-Some.ensures ∙ c.get.ensures))
    c.if-id-eq-FUSE_ROOT_ID.false _ c.count_down.ensures c.if-node-number.true

pub overflow_cast-id : goal.overflow_cast-id
overflow_cast-id g c = let low = node_below c.requires c.args.id c.in-Some.node
    (sym (c.in-Some.ensures ∙ c.get.ensures)) in omega arith

pub returns-in_err-clunk-clause-unfinished : goal.returns-in_err-clunk-clause-unfinished
returns-in_err-clunk-clause-unfinished g c =
    on_err c.from_residual.result _
    (node_part (g.N.Nine.at c.args.nine.now) c.requires (g.met.N.Nine.good c.args.nine.now)
    c.args.id c.args.number c.in-Some.node (sym (c.in-Some.ensures ∙ c.get.ensures))
    c.if-id-eq-FUSE_ROOT_ID.false c.if-node-number.false (g.N.Nine.at c.clunk.new.nine)
    c.in_err-clunk.ensures.unfinished)

pub remove_node-requires : goal.remove_node-requires
remove_node-requires g c =
    let some = used_some c.requires c.args.id c.in-Some.node
    (sym (c.in-Some.ensures ∙ c.get.ensures)) in
    subst (λ (x : Gate). 1 ≤ x.used) (sym c.count_message.ensures) some

pub returns-clause-gone : goal.returns-clause-gone
returns-clause-gone g c =
    node_left (g.N.Nine.at c.args.nine.now) c.requires (g.met.N.Nine.good c.args.nine.now) c.args.id
    c.args.number c.in-Some.node (sym (c.in-Some.ensures ∙ c.get.ensures))
    c.if-id-eq-FUSE_ROOT_ID.false c.if-node-number.false _ (g.N.Nine.at c.clunk.new.nine)
    (c.remove_node.ensures ∙ ap (λ (x : Gate). without_node x c.args.id c.in-Some.node.ino)
    c.count_message.ensures) c.in_ok-clunk.ensures.gone.asked c.in_ok-clunk.ensures.gone.state
