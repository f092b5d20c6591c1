-- Bytes that are written through a fid, or all is as it was.
use Rattle.std.proofs.Common.{◌<◌, sym, subst, ◌∙◌, refl}
use Rattle.tree_host.specs.Holds.{Holds, hold_count}
use Rattle.p9_server.proofs.HoldCounts.{kept_named}
use Rattle.p9_server.proofs.TreeSteps.{kept_after}
use Rattle.p9_server.proofs.Taking.{later_cause}
use Rattle.p9_server.proofs.Writes.{unknown_step, unwritable_step, writable_held, write_step}
use Rattle.p9_server.proofs.Writes.{failed_write, unplaced_step}
use Rattle.p9_server.proofs.Showing.{stopped_step}
use Rattle.p9_server.proofs.server.Server.write.Goals as goal

pub returns-in_default-clause-step : goal.returns-in_default-clause-step
returns-in_default-clause-step g c =
    let s = c.args.self.now in
    let tree = g.H.Host.tree s.host in
    let kept = kept_named (g.H.Host.holds s.host) s.fids s.sound.held tree
    (g.met.H.Host.stored s.host).kept in
    unknown_step tree s.fids s.msize s.share c.args.fid c.args.offset c.args.bytes.now kept
    (g.H.Host.calls s.host).steady c.in_default.ensures (g.H.Host.calls s.host).faults

pub returns-then-not-is_writable-clause-step : goal.returns-then-not-is_writable-clause-step
returns-then-not-is_writable-clause-step g c =
    let s = c.args.self.now in
    let tree = g.H.Host.tree s.host in
    let kept = kept_named (g.H.Host.holds s.host) s.fids s.sound.held tree
    (g.met.H.Host.stored s.host).kept in
    unwritable_step tree s.fids s.msize s.share c.args.fid c.args.offset c.args.bytes.now kept
    (g.H.Host.calls s.host).steady c.in-Some.state.now c.in-Some.ensures
    c.if-not-is_writable.ensures (g.H.Host.calls s.host).faults

pub write_place-requires : goal.write_place-requires
write_place-requires g c =
    let s = c.args.self.now in
    let tree = g.H.Host.tree s.host in
    let kept = kept_named (g.H.Host.holds s.host) s.fids s.sound.held tree
    (g.met.H.Host.stored s.host).kept in
    writable_held tree s.fids s.msize s.share c.args.fid c.args.offset c.args.bytes.now kept
    (g.H.Host.calls s.host).steady c.in-Some.state.now c.in-Some.ensures (g.H.Host.holds s.host)
    s.sound.held c.in-Some.state.now.ino refl

pub returns-in_err-place-clause-step : goal.returns-in_err-place-clause-step
returns-in_err-place-clause-step g c =
    let s = c.args.self.now in
    let h = c.write_place.new.host in
    let e = c.in_err-place.ensures in
    let tree = g.H.Host.tree s.host in
    let kept = kept_named (g.H.Host.holds s.host) s.fids s.sound.held tree
    (g.met.H.Host.stored s.host).kept in
    stopped_step c.from_residual.result c.in_err-place.field-0.0 c.from_residual.ensures.1
    (unplaced_step tree s.fids s.msize s.share c.args.fid c.args.offset c.args.bytes.now kept
    (g.H.Host.calls s.host).steady c.in-Some.state.now c.in-Some.ensures
    c.if-not-is_writable.ensures (g.H.Host.tree h) e.tree (g.H.Host.calls s.host).faults
    (g.H.Host.calls h).faults c.in_err-place.field-0.0 e.answer e.cause)

pub write_at-requires : goal.write_at-requires
write_at-requires g c =
    let s = c.args.self.now in
    let tree = g.H.Host.tree s.host in
    let kept = kept_named (g.H.Host.holds s.host) s.fids s.sound.held tree
    (g.met.H.Host.stored s.host).kept in
    subst (λ (k : Holds). 0 < hold_count k c.ino-ino.result) (sym c.in_ok-place.ensures.holds)
    (writable_held tree s.fids s.msize s.share c.args.fid c.args.offset c.args.bytes.now kept
    (g.H.Host.calls s.host).steady c.in-Some.state.now c.in-Some.ensures (g.H.Host.holds s.host)
    s.sound.held c.ino-ino.result c.ino-ino.ensures)

pub returns-clause-step : goal.returns-clause-step
returns-clause-step g c =
    let s = c.args.self.now in
    let h = c.write_at.new.self in
    let p = c.in_ok-place.ensures in
    let e = c.in_ok-count.ensures in
    let tree = g.H.Host.tree s.host in
    let kept = kept_named (g.H.Host.holds s.host) s.fids s.sound.held tree
    (g.met.H.Host.stored s.host).kept in
    write_step tree s.fids s.msize s.share c.args.fid c.args.offset c.args.bytes.now kept
    (g.H.Host.calls s.host).steady c.in-Some.state.now c.in-Some.ensures
    c.if-not-is_writable.ensures c.ino-ino.result c.in_ok-place.place c.ino-ino.ensures p.answer
    (g.H.Host.tree c.write_place.new.host) (g.H.Host.tree h) p.tree (g.H.Host.calls s.host).faults
    (g.H.Host.calls h).faults (g.met.H.Host.good s.host)
    (kept_after (g.H.Host.holds s.host) (g.H.Host.holds h) (e.holds ∙ p.holds) s.fids s.sound.held
    (g.H.Host.tree h) (g.met.H.Host.stored h).kept)
    c.in_ok-count.count e.leaves (e.caused.cause.counted ∙ p.cause.counted)

pub returns-in_err-count-clause-step : goal.returns-in_err-count-clause-step
returns-in_err-count-clause-step g c =
    let s = c.args.self.now in
    let w = c.write_place.new.host in
    let h = c.write_at.new.self in
    let p = c.in_ok-place.ensures in
    let e = c.in_err-count.ensures in
    let tree = g.H.Host.tree s.host in
    let kept = kept_named (g.H.Host.holds s.host) s.fids s.sound.held tree
    (g.met.H.Host.stored s.host).kept in
    stopped_step c.from_residual-in_err-count.result c.in_err-count.field-0.0 c.from_residual-in_err-count.ensures.1
    (failed_write tree s.fids s.msize s.share c.args.fid c.args.offset c.args.bytes.now kept
    (g.H.Host.calls s.host).steady c.in-Some.state.now c.in-Some.ensures
    c.if-not-is_writable.ensures c.ino-ino.result c.in_ok-place.place c.ino-ino.ensures p.answer
    (g.H.Host.tree w) (g.H.Host.tree h) p.tree (g.H.Host.calls s.host).faults
    (g.H.Host.calls h).faults
    c.in_err-count.field-0.0 e.leaves (later_cause (g.H.Host.calls s.host).steady
    (g.H.Host.calls w).steady (g.H.Host.calls s.host).faults (g.H.Host.calls w).faults
    (g.H.Host.calls h).faults _ p.steady p.cause.counted e.caused.cause))
