-- The size of a frame counts the seven bytes before its message.
use Rattle.std.proofs.Common.{◌∙◌, sym}
use Rattle.p9_wire.specs.FrameLaws.{length-frame}
use Rattle.p9_tmsg.specs.Messages.{message_of, message_kind, message_spelling}
use Rattle.p9_tmsg.proofs.frame.TframeWireFormat.byte_size.Goals as goal

pub returns : goal.returns
returns c =
    let m = message_of c.in-Ok.message in
    rw c.in-Ok.is (c.frame_size.ensures ∙ sym
    (length-frame (message_kind m) c.args.self.now.tag (message_spelling m)))
