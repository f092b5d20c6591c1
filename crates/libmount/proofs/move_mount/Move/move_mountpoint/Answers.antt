-- The call without an explanation, and then the explanation.
use Rattle.std.proofs.Common.{refl}
use Rattle.libmount.proofs.move_mount.Move.move_mountpoint.Goals as goal

pub returns-clause-ends : goal.returns-clause-ends
returns-clause-ends g c = record {
  bare = _;
  probe = _;
  did = (c.bare_move_mountpoint-bare.ensures, refl);
  told = c.explained.ensures.told;
}
