-- The refusals in order, and then the server's.
use Rattle.std.proofs.Common.{Ok, Err, sym, arith, refl, ap}
use Rattle.fuse_wire.specs.Request.{symlink}
use Rattle.p9_client.specs.Views.{qid_answer}
use Rattle.fuse_gate.proofs.Standings.{node_below, none_there, some_there}
use Rattle.fuse_gate.proofs.Serving.{refused_before}
use Rattle.fuse_gate.proofs.Querying.{shown_served, qid_reply}
use Rattle.fuse_gate.proofs.Specials.{link_unknown, link_name_fault, link_target_fault}
use Rattle.fuse_gate.proofs.Specials.{link_none, target_spells, link_fits}
use Rattle.fuse_gate.proofs.gate.Gate.symlink.Goals as goal

pub returns-then-not-contains_key-clause-served : goal.returns-then-not-contains_key-clause-served
returns-then-not-contains_key-clause-served g c =
    refused_before c.requires (g.met.N.Nine.good c.args.nine.now) c.args.node
    (symlink c.args.name.now c.args.target.now) _ (link_unknown (g.N.Nine.at c.args.nine.now) c.requires
    c.args.node c.args.name.now c.args.target.now
    (none_there _ (sym c.if-not-contains_key.ensures)))

pub returns-in-Some-clause-served : goal.returns-in-Some-clause-served
returns-in-Some-clause-served g c =
    let k = some_there _ (sym c.if-not-contains_key.ensures) in
    refused_before c.requires (g.met.N.Nine.good c.args.nine.now) c.args.node
    (symlink c.args.name.now c.args.target.now) _
    (link_name_fault (g.N.Nine.at c.args.nine.now) c.requires c.args.node c.args.name.now
    c.args.target.now k.0 k.1 c.in-Some.errno c.in-Some.ensures)

pub returns-in-Some-target_fault-clause-served : goal.returns-in-Some-target_fault-clause-served
returns-in-Some-target_fault-clause-served g c =
    let k = some_there _ (sym c.if-not-contains_key.ensures) in
    refused_before c.requires (g.met.N.Nine.good c.args.nine.now) c.args.node
    (symlink c.args.name.now c.args.target.now) _
    (link_target_fault (g.N.Nine.at c.args.nine.now) c.requires c.args.node c.args.name.now
    c.args.target.now k.0 k.1 c.in_default.ensures c.in-Some-target_fault.errno c.in-Some-target_fault.ensures)

pub overflow_cast-node : goal.overflow_cast-node
overflow_cast-node g c =
    let k = some_there _ (sym c.if-not-contains_key.ensures) in
    let low = node_below c.requires c.args.node k.0 k.1 in
    omega arith

pub symlink-requires-clause-text : goal.symlink-requires-clause-text
symlink-requires-clause-text g c = target_spells c.args.target.now c.in_default-target_fault.ensures

pub symlink-requires-clause-fits : goal.symlink-requires-clause-fits
symlink-requires-clause-fits g c = link_fits c.args.target.now c.in_default-target_fault.ensures c.args.node
    c.args.name.now c.in_default.ensures _ c.requires.roomy

pub returns-in-Ok-clause-served : goal.returns-in-Ok-clause-served
returns-in-Ok-clause-served g c =
    let k = some_there _ (sym c.if-not-contains_key.ensures) in
    shown_served (g.N.Nine.at c.args.nine.now) c.requires (g.met.N.Nine.good c.args.nine.now)
    c.args.node (symlink c.args.name.now c.args.target.now) qid_reply refl _
    (link_none (g.N.Nine.at c.args.nine.now) c.requires c.args.node c.args.name.now
    c.args.target.now k.0 k.1 c.in_default.ensures c.in_default-target_fault.ensures) refl refl
    _ (g.N.Nine.at c.symlink.new.nine) _ (qid_answer (Ok c.in-Ok.field-0)) (ap qid_answer c.in-Ok.is)
    c.count_message.ensures c.in_ok-told.ensures.kept.rises c.in_ok-told.ensures.answer

pub returns-in-Err-clause-served : goal.returns-in-Err-clause-served
returns-in-Err-clause-served g c =
    let k = some_there _ (sym c.if-not-contains_key.ensures) in
    shown_served (g.N.Nine.at c.args.nine.now) c.requires (g.met.N.Nine.good c.args.nine.now)
    c.args.node (symlink c.args.name.now c.args.target.now) qid_reply refl _
    (link_none (g.N.Nine.at c.args.nine.now) c.requires c.args.node c.args.name.now
    c.args.target.now k.0 k.1 c.in_default.ensures c.in_default-target_fault.ensures) refl refl
    _ (g.N.Nine.at c.symlink.new.nine) _ (Err c.in-Err.errno) (ap qid_answer c.in-Err.is)
    c.count_message.ensures c.in_ok-told.ensures.kept.rises c.in_ok-told.ensures.answer
