-- A fid that may be opened so is open so; else all is as it was.
use Rattle.std.proofs.Common.{◌∙◌, ap}
use Rattle.std.specs.FinMap.{insert}
use Rattle.fid_model.specs.Fids.{Fid}
use Rattle.p9_server.proofs.HoldCounts.{kept_named}
use Rattle.p9_server.proofs.TreeSteps.{kept_after}
use Rattle.p9_server.proofs.Showing.{named_held, named_there, stopped_step}
use Rattle.p9_server.proofs.Opening.{unknown_step, failed_step, opened_step, opened_sound}
use Rattle.p9_server.proofs.server.Server.open.Goals as goal

pub returns-in_err-ino-clause-step : goal.returns-in_err-ino-clause-step
returns-in_err-ino-clause-step g c =
    let s = c.args.self.now in
    let tree = g.H.Host.tree s.host in
    let kept = kept_named (g.H.Host.holds s.host) s.fids s.sound.held tree
    (g.met.H.Host.stored s.host).kept in
    stopped_step c.from_residual.result c.in_err-ino.field-0.0 c.from_residual.ensures.1
    (unknown_step tree s.fids s.msize s.share c.args.fid c.args.flags kept
    (g.H.Host.calls s.host).steady (g.H.Host.calls s.host).faults c.in_err-ino.field-0.0 c.in_err-ino.ensures)

pub open_inode-requires : goal.open_inode-requires
open_inode-requires g c = let s = c.args.self.now in named_held (g.H.Host.holds s.host) s.fids
    s.sound.held c.args.fid c.in_ok-ino.ino c.in_ok-ino.ensures

pub returns-in_err-attr-clause-step : goal.returns-in_err-attr-clause-step
returns-in_err-attr-clause-step g c =
    let s = c.args.self.now in
    let h = c.open_inode.new.host in
    let tree = g.H.Host.tree s.host in
    let kept = kept_named (g.H.Host.holds s.host) s.fids s.sound.held tree
    (g.met.H.Host.stored s.host).kept in
    let e = c.in_err-attr.ensures in
    stopped_step c.from_residual-in_err-attr.result c.in_err-attr.field-0.0 c.from_residual-in_err-attr.ensures.1
    (failed_step tree s.fids s.msize s.share c.args.fid c.args.flags kept
    (g.H.Host.calls s.host).steady c.in_ok-ino.ino c.in_ok-ino.ensures (g.H.Host.tree h)
    (kept_after (g.H.Host.holds s.host) (g.H.Host.holds h) e.holds s.fids s.sound.held
    (g.H.Host.tree h) (g.met.H.Host.stored h).kept)
    (g.H.Host.calls s.host).faults (g.H.Host.calls h).faults c.in_err-attr.field-0.0 e.answer e.cause)

pub replace-requires : goal.replace-requires
replace-requires g c = let s = c.args.self.now in named_there s.fids c.args.fid c.in_ok-ino.ino
    c.in_ok-ino.ensures

pub invariant_of-self-2 : goal.invariant_of-self-2
invariant_of-self-2 g c =
    let s = c.args.self.now in
    record {
      sound = opened_sound s.fids c.args.fid c.in_ok-ino.ino c.args.flags c.in_ok-ino.ensures
          (g.H.Host.holds s.host) (g.H.Host.holds c.open_inode.new.host)
          c.in_ok-attr.ensures.holds s.msize s.share s.sound c.replace.new.self
          (c.replace.ensures ∙ ap (λ (f : Fid). insert s.fids c.args.fid f) c.opened.ensures);
    }

pub returns-clause-step : goal.returns-clause-step
returns-clause-step g c =
    let s = c.args.self.now in
    let h = c.open_inode.new.host in
    let tree = g.H.Host.tree s.host in
    let kept = kept_named (g.H.Host.holds s.host) s.fids s.sound.held tree
    (g.met.H.Host.stored s.host).kept in
    let e = c.in_ok-attr.ensures in
    opened_step tree s.fids s.msize s.share c.args.fid c.args.flags kept
    (g.H.Host.calls s.host).steady c.in_ok-ino.ino c.in_ok-ino.ensures (g.H.Host.tree h)
    (kept_after (g.H.Host.holds s.host) (g.H.Host.holds h) e.holds s.fids s.sound.held
    (g.H.Host.tree h) (g.met.H.Host.stored h).kept)
    (g.H.Host.calls s.host).faults (g.H.Host.calls h).faults c.qid_of.result c.in_ok-attr.attr
    e.answer c.qid_of.ensures
    c.replace.new.self (c.replace.ensures ∙ ap (λ (f : Fid). insert s.fids c.args.fid f)
    c.opened.ensures) e.cause.counted
