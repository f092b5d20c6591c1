-- The refusals in order, and then the message.
use Rattle.std.proofs.Common.{Ok, Err, sym, arith}
use Rattle.fuse_wire.specs.Request.{rmdir}
use Rattle.fuse_gate.proofs.Asking.{on_err}
use Rattle.fuse_gate.proofs.Standings.{node_below, none_there, some_there}
use Rattle.fuse_gate.proofs.Serving.{refused_before}
use Rattle.fuse_gate.proofs.NameChanges.{named_unknown, named_fault, rmdir_changes, rmdir_tells}
use Rattle.fuse_gate.proofs.TreeChanging.{change_part, change_answered}
use Rattle.fuse_gate.proofs.gate.Gate.rmdir.Goals as goal

pub returns-then-not-contains_key-clause-served : goal.returns-then-not-contains_key-clause-served
returns-then-not-contains_key-clause-served g c =
    refused_before c.requires (g.met.N.Nine.good c.args.nine.now) c.args.node
    (rmdir c.args.name.now) _ (named_unknown (g.N.Nine.at c.args.nine.now) c.requires
    c.args.node c.args.name.now (none_there _ (sym c.if-not-contains_key.ensures)))

pub returns-in-Some-clause-served : goal.returns-in-Some-clause-served
returns-in-Some-clause-served g c =
    let k = some_there _ (sym c.if-not-contains_key.ensures) in
    refused_before c.requires (g.met.N.Nine.good c.args.nine.now) c.args.node
    (rmdir c.args.name.now) _ (named_fault (g.N.Nine.at c.args.nine.now) c.requires
    c.args.node c.args.name.now k.0 k.1 c.in-Some.errno c.in-Some.ensures)

pub overflow_cast-node : goal.overflow_cast-node
overflow_cast-node g c =
    let k = some_there _ (sym c.if-not-contains_key.ensures) in
    let low = node_below c.requires c.args.node k.0 k.1 in
    omega arith

pub returns-in_err-told-clause-unfinished : goal.returns-in_err-told-clause-unfinished
returns-in_err-told-clause-unfinished g c =
    let k = some_there _ (sym c.if-not-contains_key.ensures) in
    on_err c.from_residual.result _ (change_part (g.N.Nine.at c.args.nine.now) c.requires
    (g.met.N.Nine.good c.args.nine.now) c.args.node (rmdir c.args.name.now) _
    (rmdir_changes (g.N.Nine.at c.args.nine.now) c.requires c.args.node c.args.name.now k.0 k.1
    c.in_default.ensures) _ (rmdir_tells (g.N.Nine.at c.args.nine.now) c.requires c.args.node
    c.args.name.now k.0 k.1 c.in_default.ensures) _ c.in_err-told.ensures.unfinished)

pub returns-in-Ok-clause-served : goal.returns-in-Ok-clause-served
returns-in-Ok-clause-served g c =
    let k = some_there _ (sym c.if-not-contains_key.ensures) in
    change_answered (g.N.Nine.at c.args.nine.now) c.requires (g.met.N.Nine.good c.args.nine.now)
    c.args.node (rmdir c.args.name.now) _ (rmdir_changes (g.N.Nine.at c.args.nine.now) c.requires
    c.args.node c.args.name.now k.0 k.1 c.in_default.ensures) _
    (rmdir_tells (g.N.Nine.at c.args.nine.now) c.requires c.args.node c.args.name.now k.0 k.1
    c.in_default.ensures) _ (g.N.Nine.at c.unlink_at.new.nine) c.count_message.ensures
    c.in_ok-told.ensures.answer.asked _ (Ok c.in-Ok.field-0) c.in-Ok.is c.in_ok-told.ensures.answer.asks

pub returns-in-Err-clause-served : goal.returns-in-Err-clause-served
returns-in-Err-clause-served g c =
    let k = some_there _ (sym c.if-not-contains_key.ensures) in
    change_answered (g.N.Nine.at c.args.nine.now) c.requires (g.met.N.Nine.good c.args.nine.now)
    c.args.node (rmdir c.args.name.now) _ (rmdir_changes (g.N.Nine.at c.args.nine.now) c.requires
    c.args.node c.args.name.now k.0 k.1 c.in_default.ensures) _
    (rmdir_tells (g.N.Nine.at c.args.nine.now) c.requires c.args.node c.args.name.now k.0 k.1
    c.in_default.ensures) _ (g.N.Nine.at c.unlink_at.new.nine) c.count_message.ensures
    c.in_ok-told.ensures.answer.asked _ (Err c.in-Err.errno) c.in-Err.is c.in_ok-told.ensures.answer.asks
