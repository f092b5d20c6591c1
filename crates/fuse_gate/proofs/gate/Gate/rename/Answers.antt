-- The refusals in order, and then the message.
use Rattle.std.proofs.Common.{Ok, Err, sym, arith}
use Rattle.fuse_wire.specs.Request.{rename}
use Rattle.fuse_gate.proofs.Asking.{on_err}
use Rattle.fuse_gate.proofs.Standings.{node_below, none_there, some_there}
use Rattle.fuse_gate.proofs.Serving.{refused_before}
use Rattle.fuse_gate.proofs.NameChanges.{rename_unknown, rename_nowhere, rename_old_fault}
use Rattle.fuse_gate.proofs.NameChanges.{rename_new_fault, rename_changes, rename_tells}
use Rattle.fuse_gate.proofs.TreeChanging.{change_part, change_answered}
use Rattle.fuse_gate.proofs.gate.Gate.rename.Goals as goal

pub returns-then-not-contains_key-clause-served : goal.returns-then-not-contains_key-clause-served
returns-then-not-contains_key-clause-served g c =
    refused_before c.requires (g.met.N.Nine.good c.args.nine.now) c.args.node
    (rename c.args.newdir c.args.old.now c.args.new.now) _
    (rename_unknown (g.N.Nine.at c.args.nine.now) c.requires c.args.node c.args.newdir c.args.old.now c.args.new.now
    (none_there _ (sym c.if-not-contains_key.ensures)))

pub returns-then-not-contains_key-2-clause-served :
    goal.returns-then-not-contains_key-2-clause-served
returns-then-not-contains_key-2-clause-served g c =
    let k = some_there _ (sym c.if-not-contains_key.ensures) in
    refused_before c.requires (g.met.N.Nine.good c.args.nine.now) c.args.node
    (rename c.args.newdir c.args.old.now c.args.new.now) _
    (rename_nowhere (g.N.Nine.at c.args.nine.now) c.requires c.args.node c.args.newdir c.args.old.now c.args.new.now
    k.0 k.1 (none_there _ (sym c.if-not-contains_key-2.ensures)))

pub returns-in-Some-clause-served : goal.returns-in-Some-clause-served
returns-in-Some-clause-served g c =
    let k = some_there _ (sym c.if-not-contains_key.ensures) in
    let l = some_there _ (sym c.if-not-contains_key-2.ensures) in
    refused_before c.requires (g.met.N.Nine.good c.args.nine.now) c.args.node
    (rename c.args.newdir c.args.old.now c.args.new.now) _
    (rename_old_fault (g.N.Nine.at c.args.nine.now) c.requires c.args.node c.args.newdir c.args.old.now c.args.new.now
    k.0 k.1 l.0 l.1 c.in-Some.errno c.in-Some.ensures)

pub returns-in-Some-name_fault-clause-served : goal.returns-in-Some-name_fault-clause-served
returns-in-Some-name_fault-clause-served g c =
    let k = some_there _ (sym c.if-not-contains_key.ensures) in
    let l = some_there _ (sym c.if-not-contains_key-2.ensures) in
    refused_before c.requires (g.met.N.Nine.good c.args.nine.now) c.args.node
    (rename c.args.newdir c.args.old.now c.args.new.now) _
    (rename_new_fault (g.N.Nine.at c.args.nine.now) c.requires c.args.node c.args.newdir c.args.old.now c.args.new.now
    k.0 k.1 l.0 l.1 c.in_default.ensures c.in-Some-name_fault.errno c.in-Some-name_fault.ensures)

pub overflow_cast-node : goal.overflow_cast-node
overflow_cast-node g c =
    let k = some_there _ (sym c.if-not-contains_key.ensures) in
    let low = node_below c.requires c.args.node k.0 k.1 in
    omega arith

pub overflow_cast-newdir : goal.overflow_cast-newdir
overflow_cast-newdir g c =
    let l = some_there _ (sym c.if-not-contains_key-2.ensures) in
    let low = node_below c.requires c.args.newdir l.0 l.1 in
    omega arith

pub returns-in_err-told-clause-unfinished : goal.returns-in_err-told-clause-unfinished
returns-in_err-told-clause-unfinished g c =
    let k = some_there _ (sym c.if-not-contains_key.ensures) in
    let l = some_there _ (sym c.if-not-contains_key-2.ensures) in
    on_err c.from_residual.result _ (change_part (g.N.Nine.at c.args.nine.now) c.requires
    (g.met.N.Nine.good c.args.nine.now) c.args.node (rename c.args.newdir c.args.old.now c.args.new.now) _
    (rename_changes (g.N.Nine.at c.args.nine.now) c.requires c.args.node c.args.newdir c.args.old.now c.args.new.now
    k.0 k.1 l.0 l.1 c.in_default.ensures c.in_default-name_fault.ensures) _
    (rename_tells (g.N.Nine.at c.args.nine.now) c.requires c.args.node c.args.newdir c.args.old.now c.args.new.now
    k.0 k.1 l.0 l.1 c.in_default.ensures c.in_default-name_fault.ensures) _
    c.in_err-told.ensures.unfinished)

pub returns-in-Ok-clause-served : goal.returns-in-Ok-clause-served
returns-in-Ok-clause-served g c =
    let k = some_there _ (sym c.if-not-contains_key.ensures) in
    let l = some_there _ (sym c.if-not-contains_key-2.ensures) in
    change_answered (g.N.Nine.at c.args.nine.now) c.requires (g.met.N.Nine.good c.args.nine.now)
    c.args.node (rename c.args.newdir c.args.old.now c.args.new.now) _
    (rename_changes (g.N.Nine.at c.args.nine.now) c.requires c.args.node c.args.newdir c.args.old.now c.args.new.now
    k.0 k.1 l.0 l.1 c.in_default.ensures c.in_default-name_fault.ensures) _
    (rename_tells (g.N.Nine.at c.args.nine.now) c.requires c.args.node c.args.newdir c.args.old.now c.args.new.now
    k.0 k.1 l.0 l.1 c.in_default.ensures c.in_default-name_fault.ensures)
    _ (g.N.Nine.at c.rename_at.new.nine) c.count_message.ensures
    c.in_ok-told.ensures.answer.asked _ (Ok c.in-Ok.field-0) c.in-Ok.is c.in_ok-told.ensures.answer.asks

pub returns-in-Err-clause-served : goal.returns-in-Err-clause-served
returns-in-Err-clause-served g c =
    let k = some_there _ (sym c.if-not-contains_key.ensures) in
    let l = some_there _ (sym c.if-not-contains_key-2.ensures) in
    change_answered (g.N.Nine.at c.args.nine.now) c.requires (g.met.N.Nine.good c.args.nine.now)
    c.args.node (rename c.args.newdir c.args.old.now c.args.new.now) _
    (rename_changes (g.N.Nine.at c.args.nine.now) c.requires c.args.node c.args.newdir c.args.old.now c.args.new.now
    k.0 k.1 l.0 l.1 c.in_default.ensures c.in_default-name_fault.ensures) _
    (rename_tells (g.N.Nine.at c.args.nine.now) c.requires c.args.node c.args.newdir c.args.old.now c.args.new.now
    k.0 k.1 l.0 l.1 c.in_default.ensures c.in_default-name_fault.ensures)
    _ (g.N.Nine.at c.rename_at.new.nine) c.count_message.ensures
    c.in_ok-told.ensures.answer.asked _ (Err c.in-Err.errno) c.in-Err.is c.in_ok-told.ensures.answer.asks
