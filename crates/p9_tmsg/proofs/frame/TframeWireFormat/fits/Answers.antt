-- A frame fits where its message fits a frame.
use Rattle.std.proofs.Common.{arith}
use Rattle.p9_wire.specs.FrameLaws.{fits-frame}
use Rattle.p9_tmsg.specs.Messages.{message_of, message_kind, message_spelling, MessageSpells}
use Rattle.p9_tmsg.proofs.frame.TframeWireFormat.fits.Goals as goal

pub returns-in-Ok : goal.returns-in-Ok
returns-in-Ok c =
    let m = message_of c.in-Ok.message in
    rw c.in-Ok.is (fits-frame c.fits_frame.result (MessageSpells m)
    (message_kind m) c.args.self.now.tag (message_spelling m)
    (omega arith) c.fits_frame.ensures)
