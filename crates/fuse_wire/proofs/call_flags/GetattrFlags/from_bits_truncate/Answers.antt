-- The flags that `bitflags` keeps are those of the table.
use Rattle.bitflags.proofs.OnLiterals.{bitflags_on_literals}
use Rattle.fuse_wire.proofs.call_flags.GetattrFlags.from_bits_truncate.Goals as goal

pub returns : goal.returns
unfolding bitflags_on_literals
returns c = c.from_bits_truncate.ensures tt
