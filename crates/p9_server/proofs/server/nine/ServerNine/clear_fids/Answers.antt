-- Without fids there are no holds.
use Rattle.p9_server.proofs.Emptying.{sound_empty}
use Rattle.p9_server.proofs.server.nine.ServerNine.clear_fids.Goals as goal

pub invariant_of-self : goal.invariant_of-self
invariant_of-self g c =
    let s = c.args.self.now in
    let e = c.release_all.ensures in
    record {
      sound = sound_empty (g.H.Host.holds c.release_all.new.host) c.release_all.new.fids
          s.msize s.share e.holds e.fids s.sound.bounded s.sound.roomy s.sound.below;
    }
