-- The lines are read from the last one back until one has a say.
use Rattle.std.proofs.Common.{refl}
use Rattle.libmount.specs.Lookup.{flags_in}
use Rattle.libmount.proofs.remount.flags_from.Goals as goal

pub lines-init : goal.lines-init
unfolding flags_in
lines-init c = refl
