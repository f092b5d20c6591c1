use Rattle.fuse_gate.proofs.Roots.{root_of-linked}
use Rattle.fuse_gate.proofs.laws.roots_are_linked.Goals as goal

pub returns : goal.returns
returns c t names = root_of-linked t names
