-- An entry that is longer than what is left has no room; one that isn't is appended.
use Rattle.std.proofs.Common.{refl, arith}
use Rattle.fuse_wire.proofs.Sizes.{length-dirent_bytes}
use Rattle.fuse_wire.proofs.listing.ReplyDirectory.add.Goals as goal

pub returns-then-padded_size-self : goal.returns-then-padded_size-self
returns-then-padded_size-self c =
    let long = length-dirent_bytes c.args.ino.0 c.args.offset c.args.kind c.args.name.now in
    (omega (arith, long, c.if-padded_size-self.true), refl)
