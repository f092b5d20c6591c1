-- A session begins without fids, or all is as it was.
use Rattle.std.proofs.Common.{ap}
use Rattle.tree_host.specs.Calls.{Calls}
use Rattle.p9_rmsg.specs.Replies.Reply.{version as agreed}
use Rattle.p9_rmsg.specs.declared.message.Rversion.{Rversion}
use Rattle.p9_server.proofs.HoldCounts.{kept_named}
use Rattle.p9_server.proofs.Emptying.{sound_empty}
use Rattle.p9_server.proofs.Asking.{lt_true, lt_false}
use Rattle.p9_server.proofs.Sessions.{too_small_step, begun_step, least_roomy, least_below}
use Rattle.p9_server.proofs.server.Server.version.Goals as goal

pub returns-then-msize-lt-MIN_MESSAGE_SIZE-clause-step :
    goal.returns-then-msize-lt-MIN_MESSAGE_SIZE-clause-step
returns-then-msize-lt-MIN_MESSAGE_SIZE-clause-step g c =
    let s = c.args.self.now in
    let tree = g.H.Host.tree s.host in
    let kept = kept_named (g.H.Host.holds s.host) s.fids s.sound.held tree
    (g.met.H.Host.stored s.host).kept in
    too_small_step {A = Rversion} (λ v. agreed v.msize v.version) tree s.fids s.msize s.share
    c.args.msize c.args.protocol.now (g.H.Host.calls s.host).steady kept
    (lt_true c.args.msize 256 c.if-msize-lt-MIN_MESSAGE_SIZE.true)
    (g.H.Host.calls s.host).faults

pub invariant_of-self : goal.invariant_of-self
invariant_of-self g c =
    let s = c.args.self.now in
    let e = c.release_all.ensures in
    record {
      sound = sound_empty (g.H.Host.holds c.release_all.new.host) c.release_all.new.fids
          c.min-self.result s.share e.holds e.fids s.sound.bounded
          (least_roomy s.msize c.args.msize s.sound.roomy c.if-msize-lt-MIN_MESSAGE_SIZE.false
          c.min-self.result c.min-self.ensures)
          (least_below s.msize c.args.msize s.sound.below c.min-self.result c.min-self.ensures);
    }

pub returns-clause-step : goal.returns-clause-step
returns-clause-step g c =
    let s = c.args.self.now in
    let tree = g.H.Host.tree s.host in
    let e = c.release_all.ensures in
    begun_step {A = Rversion} (λ v. agreed v.msize v.version) tree s.fids s.msize s.share
    c.args.msize c.args.protocol.now (g.H.Host.calls s.host).steady
    (lt_false c.args.msize 256 c.if-msize-lt-MIN_MESSAGE_SIZE.false)
    (g.H.Host.tree c.release_all.new.host) e.tree c.release_all.new.fids e.fids c.min-self.result
    c.min-self.ensures (g.H.Host.calls s.host).faults
    (g.H.Host.calls c.release_all.new.host).faults (ap (λ (k : Calls). k.faults) e.calls)
    (record { msize = c.min-self.result; version = c.in_ok-version.version })
    (λ j. agreed (c.min-self.ensures j) (c.in_ok-version.ensures.text j))
