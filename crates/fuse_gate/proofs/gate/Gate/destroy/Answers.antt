-- The phase is over.
use Rattle.fuse_gate.proofs.Beginning.{destroyed}
use Rattle.fuse_gate.proofs.gate.Gate.destroy.Goals as goal

pub returns : goal.returns
returns c n st good = destroyed st good
