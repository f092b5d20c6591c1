-- A node is refused that isn't there; else it is asked about.
use Rattle.std.proofs.Common.{Ok, Err, sym, arith, refl, ap}
use Rattle.fuse_wire.specs.Request.{statfs}
use Rattle.p9_client.specs.Views.{sizes_answer}
use Rattle.fuse_gate.proofs.Standings.{node_below, none_there, some_there}
use Rattle.fuse_gate.proofs.Serving.{refused_before}
use Rattle.fuse_gate.proofs.Querying.{shown_served, node_unknown, node_known}
use Rattle.fuse_gate.proofs.Querying.{sizes_shown, sizes_effect}
use Rattle.fuse_gate.proofs.gate.Gate.statfs.Goals as goal

pub returns-then-not-contains_key-clause-served : goal.returns-then-not-contains_key-clause-served
returns-then-not-contains_key-clause-served g c =
    refused_before c.requires (g.met.N.Nine.good c.args.nine.now) c.args.node statfs _
    (node_unknown (g.N.Nine.at c.args.nine.now) c.requires c.args.node
    (none_there _ (sym c.if-not-contains_key.ensures)))

pub overflow_cast-node : goal.overflow_cast-node
overflow_cast-node g c =
    let k = some_there _ (sym c.if-not-contains_key.ensures) in
    let low = node_below c.requires c.args.node k.0 k.1 in
    omega arith

pub returns-in-Ok-clause-served : goal.returns-in-Ok-clause-served
returns-in-Ok-clause-served g c =
    let k = some_there _ (sym c.if-not-contains_key.ensures) in
    shown_served (g.N.Nine.at c.args.nine.now) c.requires (g.met.N.Nine.good c.args.nine.now)
    c.args.node statfs sizes_shown refl _
    (node_known (g.N.Nine.at c.args.nine.now) c.requires c.args.node k.0 k.1)
    (sizes_effect (g.N.Nine.at c.args.nine.now) c.requires c.args.node k.0 k.1) refl
    _ (g.N.Nine.at c.stat_fs.new.nine) _ (sizes_answer (Ok c.in-Ok.sizes)) (ap sizes_answer c.in-Ok.is)
    c.count_message.ensures c.in_ok-told.ensures.kept.rises c.in_ok-told.ensures.answer

pub returns-in-Err-clause-served : goal.returns-in-Err-clause-served
returns-in-Err-clause-served g c =
    let k = some_there _ (sym c.if-not-contains_key.ensures) in
    shown_served (g.N.Nine.at c.args.nine.now) c.requires (g.met.N.Nine.good c.args.nine.now)
    c.args.node statfs sizes_shown refl _
    (node_known (g.N.Nine.at c.args.nine.now) c.requires c.args.node k.0 k.1)
    (sizes_effect (g.N.Nine.at c.args.nine.now) c.requires c.args.node k.0 k.1) refl
    _ (g.N.Nine.at c.stat_fs.new.nine) _ (Err c.in-Err.errno) (ap sizes_answer c.in-Err.is)
    c.count_message.ensures c.in_ok-told.ensures.kept.rises c.in_ok-told.ensures.answer
