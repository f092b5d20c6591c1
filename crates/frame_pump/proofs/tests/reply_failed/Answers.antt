-- A frame has a whole head.
use Rattle.std.proofs.Common.{length}
use Rattle.fuse_wire.proofs.Fronts.{is_allowed-range}
use Rattle.frame_pump.proofs.tests.reply_failed.Goals as goal

pub read-head-requires : goal.read-head-requires
read-head-requires c = (is_allowed-range (length c.args.frame.now) c.requires.allowed).0
