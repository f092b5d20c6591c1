-- The pieces of the reply stand one behind another.
use Rattle.std.proofs.Common.{append_assoc}
use Rattle.fuse_wire.specs.Reply.{reply, statfs_body}
use Rattle.fuse_wire.proofs.Sizes.{length-statfs_body}
use Rattle.fuse_wire.proofs.reply.reply_statfs.Goals as goal

pub returns : goal.returns
unfolding reply statfs_body
returns c = rw length-statfs_body (rw (
  c.put.ensures.items,
  c.put_u32s.ensures.items,
  c.put_u64s.ensures.items,
  c.put_head.ensures.items,
) (simp append_assoc))
