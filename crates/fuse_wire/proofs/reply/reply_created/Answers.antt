-- The pieces of the reply stand one behind another.
use Rattle.std.proofs.Common.{append_assoc}
use Rattle.fuse_wire.specs.Reply.{reply, created_body, entry_body, opened_body}
use Rattle.fuse_wire.proofs.Sizes.{length-created_body}
use Rattle.fuse_wire.proofs.reply.reply_created.Goals as goal

pub returns : goal.returns
unfolding reply created_body entry_body opened_body
returns c = rw length-created_body (rw (
  c.put_u32s-2.ensures.items,
  c.put_u64s-2.ensures.items,
  c.put_attr.ensures.items,
  c.put_u32s.ensures.items,
  c.put_u64s.ensures.items,
  c.put_head.ensures.items,
) (simp append_assoc))
