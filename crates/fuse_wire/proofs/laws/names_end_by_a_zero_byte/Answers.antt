-- The two directions are lemmas.
use Rattle.fuse_wire.proofs.Naming.{name_read, name_found}
use Rattle.fuse_wire.proofs.laws.names_end_by_a_zero_byte.Goals as goal

pub returns-clause-read : goal.returns-clause-read
returns-clause-read c = name_read

pub returns-clause-found : goal.returns-clause-found
returns-clause-found c = name_found
