-- The size of a frame counts the seven bytes before its message.
use Rattle.std.proofs.Common.{◌∙◌, sym}
use Rattle.p9_wire.specs.FrameLaws.{length-frame}
use Rattle.p9_rmsg.specs.Replies.{reply_of, reply_kind, reply_spelling}
use Rattle.p9_rmsg.proofs.frame.RframeWireFormat.byte_size.Goals as goal

pub returns : goal.returns
returns c =
    let m = reply_of c.args.self.now.msg in
    c.frame_size.ensures ∙ sym (length-frame (reply_kind m) c.args.self.now.tag (reply_spelling m))
