-- The refusals in order, and then the server's.
use Rattle.std.proofs.Common.{Ok, Err, sym, arith, refl, ap}
use Rattle.fuse_wire.specs.Request.{mknod}
use Rattle.p9_client.specs.Views.{qid_answer}
use Rattle.fuse_gate.proofs.Standings.{node_below, none_there, some_there}
use Rattle.fuse_gate.proofs.Serving.{refused_before}
use Rattle.fuse_gate.proofs.Querying.{shown_served, qid_reply}
use Rattle.fuse_gate.proofs.NameChanges.{named_unknown, named_fault, named_none}
use Rattle.fuse_gate.proofs.gate.Gate.mknod.Goals as goal

pub returns-then-not-contains_key-clause-served : goal.returns-then-not-contains_key-clause-served
returns-then-not-contains_key-clause-served g c =
    refused_before c.requires (g.met.N.Nine.good c.args.nine.now) c.args.node
    (mknod c.args.mode c.args.rdev c.args.name.now) _ (named_unknown (g.N.Nine.at c.args.nine.now) c.requires
    c.args.node c.args.name.now (none_there _ (sym c.if-not-contains_key.ensures)))

pub returns-in-Some-clause-served : goal.returns-in-Some-clause-served
returns-in-Some-clause-served g c =
    let k = some_there _ (sym c.if-not-contains_key.ensures) in
    refused_before c.requires (g.met.N.Nine.good c.args.nine.now) c.args.node
    (mknod c.args.mode c.args.rdev c.args.name.now) _
    (named_fault (g.N.Nine.at c.args.nine.now) c.requires c.args.node c.args.name.now k.0 k.1
    c.in-Some.errno c.in-Some.ensures)

pub overflow_cast-node : goal.overflow_cast-node
overflow_cast-node g c =
    let k = some_there _ (sym c.if-not-contains_key.ensures) in
    let low = node_below c.requires c.args.node k.0 k.1 in
    omega arith

pub returns-in-Ok-clause-served : goal.returns-in-Ok-clause-served
returns-in-Ok-clause-served g c =
    let k = some_there _ (sym c.if-not-contains_key.ensures) in
    shown_served (g.N.Nine.at c.args.nine.now) c.requires (g.met.N.Nine.good c.args.nine.now)
    c.args.node (mknod c.args.mode c.args.rdev c.args.name.now) qid_reply refl _
    (named_none (g.N.Nine.at c.args.nine.now) c.requires c.args.node c.args.name.now k.0 k.1
    c.in_default.ensures) refl refl
    _ (g.N.Nine.at c.mknod.new.nine) _ (qid_answer (Ok c.in-Ok.field-0)) (ap qid_answer c.in-Ok.is)
    c.count_message.ensures c.in_ok-told.ensures.kept.rises c.in_ok-told.ensures.answer

pub returns-in-Err-clause-served : goal.returns-in-Err-clause-served
returns-in-Err-clause-served g c =
    let k = some_there _ (sym c.if-not-contains_key.ensures) in
    shown_served (g.N.Nine.at c.args.nine.now) c.requires (g.met.N.Nine.good c.args.nine.now)
    c.args.node (mknod c.args.mode c.args.rdev c.args.name.now) qid_reply refl _
    (named_none (g.N.Nine.at c.args.nine.now) c.requires c.args.node c.args.name.now k.0 k.1
    c.in_default.ensures) refl refl
    _ (g.N.Nine.at c.mknod.new.nine) _ (Err c.in-Err.errno) (ap qid_answer c.in-Err.is)
    c.count_message.ensures c.in_ok-told.ensures.kept.rises c.in_ok-told.ensures.answer
