use Rattle.std.proofs.Common.{◌≡◌, length}
use Rattle.std.specs.Option.{option_copied}
use Rattle.std.specs.List.{fold}
use Rattle.port_base.specs.Flags.{bits_of}
use Rattle.libmount.specs.Options.{comma, flags_of, with_option}
use Rattle.libmount.specs.Parts.{parts}
use Rattle.libmount.proofs.mountinfo.options.flags_of.Given as goal

abbrev pub invariant-options : goal.invariant-options
invariant-options l = flags_of l.options ≡ fold with_option (bits_of l.flags)
    (parts comma (option_copied l.rest))

abbrev pub decreases-options : goal.decreases-options
decreases-options l = length (parts comma (option_copied l.rest))
