-- There is room for each reply.
use Rattle.std.proofs.Common.{ap, length, arith}
use Rattle.fuse_gate.specs.declared.gate.reply.Reply.TheVariants.{Refused, Granted, Entry}
use Rattle.fuse_gate.specs.declared.gate.reply.Reply.TheVariants.{Attributes, Opened, Bytes, Sizes}
use Rattle.fuse_gate.specs.declared.gate.reply.Reply.TheVariants.{Done, Created, Written}
use Rattle.fuse_gate.proofs.Replying.{room}
use Rattle.fuse_gate.proofs.gate.reply.write_reply.Goals as goal

pub reply_error-requires : goal.reply_error-requires
reply_error-requires c = room c.args.unique.0 _ _ c.args.reply.now c.requires.room
    (Refused c.in-Refused.errno) c.in-Refused.is

pub reply_init-requires : goal.reply_init-requires
reply_init-requires c = room c.args.unique.0 _ _ c.args.reply.now c.requires.room
    (Granted c.in-Granted.minor c.in-Granted.max_readahead) c.in-Granted.is

pub reply_entry-requires : goal.reply_entry-requires
reply_entry-requires c = room c.args.unique.0 _ _ c.args.reply.now c.requires.room
    (Entry c.in-Entry.node c.in-Entry.attr) c.in-Entry.is

pub reply_attr-requires : goal.reply_attr-requires
reply_attr-requires c = room c.args.unique.0 _ _ c.args.reply.now c.requires.room
    (Attributes c.in-Attributes.attr) c.in-Attributes.is

pub reply_opened-requires : goal.reply_opened-requires
reply_opened-requires c = room c.args.unique.0 _ _ c.args.reply.now c.requires.room
    (Opened c.in-Opened.handle) c.in-Opened.is

pub reply_created-requires : goal.reply_created-requires
reply_created-requires c = room c.args.unique.0 _ _ c.args.reply.now c.requires.room
    (Created c.in-Created.node c.in-Created.attr c.in-Created.handle) c.in-Created.is

pub reply_bytes-requires-clause-room : goal.reply_bytes-requires-clause-room
reply_bytes-requires-clause-room c = omega (
  arith,
  ap length c.deref.ensures.value,
  room
      c.args.unique.0 _ _ c.args.reply.now c.requires.room (Bytes c.in-Bytes.bytes) c.in-Bytes.is,
)

pub reply_written-requires : goal.reply_written-requires
reply_written-requires c = room c.args.unique.0 _ _ c.args.reply.now c.requires.room
    (Written c.in-Written.count) c.in-Written.is

pub reply_statfs-requires : goal.reply_statfs-requires
reply_statfs-requires c = room c.args.unique.0 _ _ c.args.reply.now c.requires.room
    (Sizes c.in-Sizes.blocks c.in-Sizes.files) c.in-Sizes.is

pub reply_empty-requires : goal.reply_empty-requires
reply_empty-requires c = room c.args.unique.0 _ _ c.args.reply.now c.requires.room Done c.in-Done.is
