use Rattle.std.proofs.Common.{◌≡◌, drop}
use Rattle.libmount.specs.Escapes.{has_escape}
use Rattle.libmount.proofs.mountinfo.escapes.has_escape.Given as goal

abbrev pub invariant-loop-at : goal.invariant-loop-at
invariant-loop-at l = has_escape l.text ≡ has_escape (drop l.at l.text)
