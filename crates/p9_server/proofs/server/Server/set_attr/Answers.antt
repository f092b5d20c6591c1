-- The steps of a Tsetattr on what a fid names.
use Rattle.p9_server.proofs.HoldCounts.{kept_named}
use Rattle.p9_server.proofs.TreeSteps.{kept_after}
use Rattle.p9_server.proofs.Settings.{unknown_step, known_held, set_step}
use Rattle.p9_server.proofs.server.Server.set_attr.Goals as goal

pub returns-in_default-clause-step : goal.returns-in_default-clause-step
returns-in_default-clause-step g c =
    let s = c.args.self.now in
    let m = c.args.m.now in
    let tree = g.H.Host.tree s.host in
    let kept = kept_named (g.H.Host.holds s.host) s.fids s.sound.held tree
    (g.met.H.Host.stored s.host).kept in
    unknown_step tree s.fids s.msize s.share m.fid m.valid m.mode m.uid m.gid m.size m.atime_sec
    m.atime_nsec m.mtime_sec m.mtime_nsec (g.H.Host.calls s.host).steady kept
    c.in_default.ensures (g.H.Host.calls s.host).faults

pub set_attributes-requires : goal.set_attributes-requires
set_attributes-requires g c =
    let s = c.args.self.now in
    let m = c.args.m.now in
    known_held (g.H.Host.tree s.host) s.fids s.msize s.share m.fid m.valid m.mode m.uid m.gid m.size
    m.atime_sec m.atime_nsec m.mtime_sec m.mtime_nsec (g.H.Host.calls s.host).steady
    c.in-Some.state.now c.in-Some.ensures (g.H.Host.holds s.host) s.sound.held

pub returns-clause-step : goal.returns-clause-step
returns-clause-step g c =
    let s = c.args.self.now in
    let m = c.args.m.now in
    let h = c.set_attributes.new.host in
    let e = c.set_attributes.ensures in
    set_step (g.H.Host.tree s.host) s.fids s.msize s.share m.fid m.valid m.mode m.uid m.gid m.size
    m.atime_sec m.atime_nsec m.mtime_sec m.mtime_nsec (g.H.Host.calls s.host).steady
    c.in-Some.state.now c.in-Some.ensures (g.H.Host.tree h)
    (kept_after (g.H.Host.holds s.host) (g.H.Host.holds h) e.holds s.fids s.sound.held
    (g.H.Host.tree h) (g.met.H.Host.stored h).kept)
    (g.H.Host.calls s.host).faults (g.H.Host.calls h).faults c.set_attributes.result e.ran e.cause
