-- The words of 8 bytes stand before those of 4.
use Rattle.fuse_wire.specs.Reply.{attr_bytes}
use Rattle.fuse_wire.proofs.Appending.{joined}
use Rattle.fuse_wire.proofs.reply.put_attr.Goals as goal

pub returns-clause-items : goal.returns-clause-items
unfolding attr_bytes
returns-clause-items c = joined _ _ _ _ _ c.put_u64s.ensures.items c.put_u32s.ensures.items
