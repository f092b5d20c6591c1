-- A handle is refused that isn't there; else what was written is kept.
use Rattle.std.proofs.Common.{Ok, Err, sym, arith, refl}
use Rattle.fuse_wire.specs.Request.{fsync}
use Rattle.fuse_gate.proofs.Standings.{handle_below, none_there, some_there}
use Rattle.fuse_gate.proofs.Serving.{refused_before}
use Rattle.fuse_gate.proofs.LettingGo.{handle_refused}
use Rattle.fuse_gate.proofs.TreeChanging.{done_reply}
use Rattle.fuse_gate.proofs.Querying.{shown_served, handle_known, sync_effect}
use Rattle.fuse_gate.proofs.gate.Gate.fsync.Goals as goal

pub returns-then-not-contains_key-clause-served : goal.returns-then-not-contains_key-clause-served
returns-then-not-contains_key-clause-served g c =
    refused_before c.requires (g.met.N.Nine.good c.args.nine.now) 0 (fsync c.args.handle 0) _
    (handle_refused (g.N.Nine.at c.args.nine.now) c.requires (g.met.N.Nine.good c.args.nine.now)
    c.args.handle (none_there _ (sym c.if-not-contains_key.ensures)))

pub overflow_cast-handle : goal.overflow_cast-handle
overflow_cast-handle g c =
    let h = some_there _ (sym c.if-not-contains_key.ensures) in
    let low = handle_below c.requires c.args.handle h.0 h.1 in
    omega arith

pub returns-in-Ok-clause-served : goal.returns-in-Ok-clause-served
returns-in-Ok-clause-served g c =
    let h = some_there _ (sym c.if-not-contains_key.ensures) in
    shown_served (g.N.Nine.at c.args.nine.now) c.requires (g.met.N.Nine.good c.args.nine.now)
    0 (fsync c.args.handle 0) done_reply refl _
    (handle_known (g.N.Nine.at c.args.nine.now) c.requires c.args.handle h.0 h.1)
    (sync_effect (g.N.Nine.at c.args.nine.now) c.requires c.args.handle h.0 h.1) refl
    _ (g.N.Nine.at c.fsync.new.nine) _ (Ok c.in-Ok.field-0) c.in-Ok.is
    c.count_message.ensures c.in_ok-told.ensures.kept.rises c.in_ok-told.ensures.answer

pub returns-in-Err-clause-served : goal.returns-in-Err-clause-served
returns-in-Err-clause-served g c =
    let h = some_there _ (sym c.if-not-contains_key.ensures) in
    shown_served (g.N.Nine.at c.args.nine.now) c.requires (g.met.N.Nine.good c.args.nine.now)
    0 (fsync c.args.handle 0) done_reply refl _
    (handle_known (g.N.Nine.at c.args.nine.now) c.requires c.args.handle h.0 h.1)
    (sync_effect (g.N.Nine.at c.args.nine.now) c.requires c.args.handle h.0 h.1) refl
    _ (g.N.Nine.at c.fsync.new.nine) _ (Err c.in-Err.errno) c.in-Err.is
    c.count_message.ensures c.in_ok-told.ensures.kept.rises c.in_ok-told.ensures.answer
