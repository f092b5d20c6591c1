use Rattle.fuse_gate.proofs.Stored.{stored_exactly}
use Rattle.fuse_gate.proofs.laws.stored_are_linked_or_named.Goals as goal

pub returns : goal.returns
returns c g s st good i = stored_exactly g s st good i
