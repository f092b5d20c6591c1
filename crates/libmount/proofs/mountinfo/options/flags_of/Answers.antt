-- The flags so far go on to those of all the options.
use Rattle.std.proofs.Common.{refl}
use Rattle.libmount.specs.Options.{flags_of}
use Rattle.libmount.proofs.mountinfo.options.flags_of.Goals as goal

pub options-init : goal.options-init
unfolding flags_of
options-init c = rw c.empty-flags.ensures refl
