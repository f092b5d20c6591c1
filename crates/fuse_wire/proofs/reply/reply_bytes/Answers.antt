-- The bytes stand behind the head.
use Rattle.fuse_wire.specs.Reply.{reply}
use Rattle.fuse_wire.proofs.Appending.{joined}
use Rattle.fuse_wire.proofs.reply.reply_bytes.Goals as goal

pub returns : goal.returns
unfolding reply
returns c = joined _ _ _ _ _ c.put_head.ensures.items c.put.ensures.items
