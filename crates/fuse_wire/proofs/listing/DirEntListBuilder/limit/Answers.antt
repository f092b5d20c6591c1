-- What a listing has ends by the end of what it may have.
use Rattle.std.proofs.Common.{arith}
use Rattle.fuse_wire.proofs.listing.DirEntListBuilder.limit.Goals as goal

pub overflow_cast-len : goal.overflow_cast-len
overflow_cast-len c = omega (
  arith,
  c.len-len.ensures,
  c.args.self.now.before,
  c.args.self.now.inside,
  c.args.self.now.entries.now.small,
)

pub overflow_add-self : goal.overflow_add-self
overflow_add-self c = omega (
  arith,
  c.len-len.ensures,
  c.args.self.now.before,
  c.args.self.now.inside,
  c.args.self.now.entries.now.small,
  c.min.ensures,
)
