-- Each frame that is read is one more, and the first that is refused ends the count.
use Rattle.std.proofs.Common.{subst, sym}
use Rattle.p9_tmsg.proofs.CountingFrames.{Counted, Counted-nothing, Counted-more}
use Rattle.p9_tmsg.proofs.count.tframe_decode.Goals as goal

pub frames-init : goal.frames-init
frames-init c = subst (λ left. Counted c.args.bytes.now left 0) (sym c.new-source.ensures)
    (Counted-nothing c.args.bytes.now)

pub frames-preserved : goal.frames-preserved
frames-preserved c = Counted-more c.args.bytes.now c.frames.source.rest.now
    c.decode.new.source.rest.now c.frames.count c.in-Ok.frame c.frames.invariant
    c.in-Ok.ensures.decodes.answer
