-- The number stands behind the head.
use Rattle.std.proofs.Common.{append_assoc}
use Rattle.fuse_wire.specs.Reply.{reply, written_body}
use Rattle.fuse_wire.proofs.Sizes.{length-written_body}
use Rattle.fuse_wire.proofs.reply.reply_written.Goals as goal

pub returns : goal.returns
unfolding reply written_body
returns c = rw length-written_body (rw (
  c.put_u32s.ensures.items,
  c.put_head.ensures.items,
) (simp append_assoc))
