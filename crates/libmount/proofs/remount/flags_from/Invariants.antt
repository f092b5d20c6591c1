use Rattle.std.proofs.Common.{◌≡◌, length}
use Rattle.std.specs.Prelude.{option_copied, slice_get}
use Rattle.libmount.specs.Items.{line_feed}
use Rattle.libmount.specs.Lookup.{flags_in, or_none, verdicts}
use Rattle.libmount.specs.Parts.{parts}
use Rattle.libmount.proofs.remount.flags_from.Given as goal

abbrev pub invariant-lines : goal.invariant-lines
invariant-lines l = flags_in l.path l.content ≡ or_none
    (slice_get (verdicts l.path (option_copied l.rest)) 0)

abbrev pub decreases-lines : goal.decreases-lines
decreases-lines l = length (parts line_feed (option_copied l.rest))
