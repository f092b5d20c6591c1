-- What the host tells of the inode that a fid names, as it is shown.
use Rattle.std.proofs.Common.{Result}
use Rattle.tree_model.specs.declared.attributes.Attr.{Attr}
use Rattle.tree_model.specs.declared.attributes.HostError.{HostError}
use Rattle.p9_tmsg.specs.Messages.Message.{getattr}
use Rattle.p9_server.specs.Steps.{IsStep, server_state}
use Rattle.p9_server.proofs.HoldCounts.{kept_named}
use Rattle.p9_server.proofs.Showing.{passed_on, named_held, mode_below, shows, unknown_step}
use Rattle.p9_server.proofs.Showing.{shown_step, failed_step}
use Rattle.p9_server.proofs.server.Server.get_attr.Goals as goal

pub returns-in_err-ino-clause-step : goal.returns-in_err-ino-clause-step
returns-in_err-ino-clause-step g c =
    let s = c.args.self.now in
    let tree = g.H.Host.tree s.host in
    let steady = (g.H.Host.calls s.host).steady in
    let faults = (g.H.Host.calls s.host).faults in
    let kept = kept_named (g.H.Host.holds s.host) s.fids s.sound.held tree
    (g.met.H.Host.stored s.host).kept in
    let before = server_state tree s.fids s.msize s.share in
    passed_on (λ (r : Result Attr HostError). IsStep (getattr c.args.fid 0) shows before before
    steady faults faults r)
    c.from_residual.result c.in_err-ino.field-0.0 c.from_residual.ensures.1
    (unknown_step tree s.fids s.msize s.share c.args.fid kept steady faults c.in_err-ino.field-0.0
    c.in_err-ino.ensures)

pub stat-requires : goal.stat-requires
stat-requires g c = let s = c.args.self.now in named_held (g.H.Host.holds s.host) s.fids
    s.sound.held c.args.fid c.in_ok-ino.ino c.in_ok-ino.ensures

pub returns-in_err-attr-clause-step : goal.returns-in_err-attr-clause-step
returns-in_err-attr-clause-step g c =
    let s = c.args.self.now in
    let tree = g.H.Host.tree s.host in
    let steady = (g.H.Host.calls s.host).steady in
    let faults = (g.H.Host.calls s.host).faults in
    let kept = kept_named (g.H.Host.holds s.host) s.fids s.sound.held tree
    (g.met.H.Host.stored s.host).kept in
    let e = c.in_err-attr.ensures in
    passed_on (λ (r : Result Attr HostError). IsStep (getattr c.args.fid 0) shows
    (server_state tree s.fids s.msize s.share)
    (server_state (g.H.Host.tree c.stat.new.self) s.fids s.msize s.share) steady faults
    (g.H.Host.calls c.stat.new.self).faults r)
    c.from_residual-in_err-attr.result c.in_err-attr.field-0.0 c.from_residual-in_err-attr.ensures.1
    (failed_step tree s.fids s.msize s.share c.args.fid kept steady c.in_ok-ino.ino
    c.in_ok-ino.ensures (g.H.Host.tree c.stat.new.self) e.tree faults
    (g.H.Host.calls c.stat.new.self).faults c.in_err-attr.field-0.0 e.answer e.caused.cause)

pub shown-requires : goal.shown-requires
shown-requires g c =
    let s = c.args.self.now in
    mode_below (g.H.Host.tree s.host) (g.met.H.Host.good s.host) c.in_ok-ino.ino c.in_ok-attr.attr
    c.in_ok-attr.ensures.answer.exactly

pub returns-clause-step : goal.returns-clause-step
returns-clause-step g c =
    let s = c.args.self.now in
    let tree = g.H.Host.tree s.host in
    let kept = kept_named (g.H.Host.holds s.host) s.fids s.sound.held tree
    (g.met.H.Host.stored s.host).kept in
    let e = c.in_ok-attr.ensures in
    shown_step tree s.fids s.msize s.share c.args.fid kept (g.H.Host.calls s.host).steady
    c.in_ok-ino.ino c.in_ok-ino.ensures (g.H.Host.tree c.stat.new.self) e.tree
    (g.H.Host.calls s.host).faults (g.H.Host.calls c.stat.new.self).faults c.in_ok-attr.attr
    c.shown.result e.answer.exactly c.shown.ensures e.caused.cause.counted
