-- A frame fits where its message fits a frame.
use Rattle.std.proofs.Common.{arith}
use Rattle.p9_wire.specs.FrameLaws.{fits-frame}
use Rattle.p9_rmsg.specs.Replies.{reply_of, reply_kind, reply_spelling, ReplySpells}
use Rattle.p9_rmsg.proofs.frame.RframeWireFormat.fits.Goals as goal

pub returns : goal.returns
returns c =
    let m = reply_of c.args.self.now.msg in
    fits-frame c.fits_frame.result (ReplySpells m) (reply_kind m) c.args.self.now.tag
    (reply_spelling m) (omega arith) c.fits_frame.ensures
