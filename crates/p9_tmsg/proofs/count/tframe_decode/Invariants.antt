use Rattle.std.proofs.Common.{length}
use Rattle.p9_tmsg.proofs.CountingFrames.{Counted}
use Rattle.p9_tmsg.proofs.count.tframe_decode.Given as goal

abbrev pub invariant-frames : goal.invariant-frames
invariant-frames l = Counted l.bytes l.source.rest.now l.count

abbrev pub decreases-frames : goal.decreases-frames
decreases-frames l = length l.source.rest.now
