-- No bit has a name.
use Rattle.std.proofs.Common.{◌∙◌}
use Rattle.std.specs.Int.Bits.{and_zero_r}
use Rattle.bitflags.proofs.OnLiterals.{bitflags_on_literals}
use Rattle.fuse_wire.proofs.call_flags.CopyFileRangeFlags.from_bits_truncate.Goals as goal

pub returns : goal.returns
unfolding bitflags_on_literals
returns c = c.from_bits_truncate.ensures tt ∙ and_zero_r c.args.bits
