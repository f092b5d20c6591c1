-- The pieces of the reply stand one behind another.
use Rattle.std.proofs.Common.{append_assoc}
use Rattle.fuse_wire.specs.Reply.{reply, init_body}
use Rattle.fuse_wire.proofs.Sizes.{length-init_body}
use Rattle.fuse_wire.proofs.reply.reply_init.Goals as goal

pub returns : goal.returns
unfolding reply init_body
returns c = rw length-init_body (rw (
  c.put-3.ensures.items,
  c.put_u32s-2.ensures.items,
  c.put-2.ensures.items,
  c.to_le_bytes-2.ensures,
  c.put.ensures.items,
  c.to_le_bytes.ensures,
  c.put_u32s.ensures.items,
  c.put_head.ensures.items,
) (simp append_assoc))
