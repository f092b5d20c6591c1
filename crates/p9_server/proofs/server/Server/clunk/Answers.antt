-- A fid goes with its hold; one that isn't there leaves all as it was.
use Rattle.std.proofs.Common.{ap}
use Rattle.tree_host.specs.Calls.{Calls}
use Rattle.p9_server.proofs.HoldCounts.{kept_named}
use Rattle.p9_server.proofs.Clunking.{absent_sound, absent_step, gone_held, gone_sound, gone_step}
use Rattle.p9_server.proofs.server.Server.clunk.Goals as goal

pub invariant_of-self : goal.invariant_of-self
invariant_of-self g c =
    let s = c.args.self.now in
    record {
      sound = absent_sound (g.H.Host.holds s.host) s.fids s.msize s.share s.sound c.args.fid
          c.in_default.ensures.value c.remove.new.self c.in_default.ensures.removed;
    }

pub returns-in_default-clause-step : goal.returns-in_default-clause-step
returns-in_default-clause-step g c =
    let s = c.args.self.now in
    let tree = g.H.Host.tree s.host in
    let kept = kept_named (g.H.Host.holds s.host) s.fids s.sound.held tree
    (g.met.H.Host.stored s.host).kept in
    absent_step (g.H.Host.holds s.host) s.fids s.msize s.share s.sound c.args.fid
    c.in_default.ensures.value c.remove.new.self c.in_default.ensures.removed tree kept
    (g.H.Host.calls s.host).steady (g.H.Host.calls s.host).faults

pub release-requires : goal.release-requires
release-requires g c =
    let s = c.args.self.now in
    gone_held (g.H.Host.holds s.host) s.fids s.msize s.share s.sound c.args.fid c.in-Some.gone
    c.in-Some.ensures.value c.ino.result c.ino.ensures

pub invariant_of-self-2 : goal.invariant_of-self-2
invariant_of-self-2 g c =
    let s = c.args.self.now in
    record {
      sound = gone_sound (g.H.Host.holds s.host) s.fids s.msize s.share s.sound c.args.fid
          c.in-Some.gone c.in-Some.ensures.value c.ino.result c.ino.ensures
          (g.H.Host.holds c.release.new.self) c.release.ensures.holds c.remove.new.self
          c.in-Some.ensures.removed;
    }

pub returns-clause-step : goal.returns-clause-step
returns-clause-step g c =
    let s = c.args.self.now in
    gone_step (g.H.Host.holds s.host) s.fids s.msize s.share s.sound c.args.fid c.in-Some.gone
    c.in-Some.ensures.value c.ino.result c.ino.ensures (g.H.Host.holds c.release.new.self)
    c.release.ensures.holds c.remove.new.self c.in-Some.ensures.removed
    (g.H.Host.tree s.host) (g.H.Host.tree c.release.new.self) c.release.ensures.tree
    (g.H.Host.calls s.host).steady (g.H.Host.calls s.host).faults
    (g.H.Host.calls c.release.new.self).faults
    (ap (λ (k : Calls). k.faults) c.release.ensures.calls)
