-- The pieces of the reply stand one behind another.
use Rattle.std.proofs.Common.{append_assoc}
use Rattle.fuse_wire.specs.Reply.{reply, attr_body}
use Rattle.fuse_wire.proofs.Sizes.{length-attr_body}
use Rattle.fuse_wire.proofs.reply.reply_attr.Goals as goal

pub returns : goal.returns
unfolding reply attr_body
returns c = rw length-attr_body (rw (
  c.put_attr.ensures.items,
  c.put_u32s.ensures.items,
  c.put_u64s.ensures.items,
  c.put_head.ensures.items,
) (simp append_assoc))
