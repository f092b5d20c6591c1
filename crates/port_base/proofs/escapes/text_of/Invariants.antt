use Rattle.std.proofs.Common.{◌≡◌, ◌++◌, length}
use Rattle.port_base.specs.Escapes.{escaped}
use Rattle.port_base.proofs.escapes.text_of.Given as goal

abbrev pub invariant-loop-rest : goal.invariant-loop-rest
invariant-loop-rest l = escaped l.out.items ++ l.rest ≡ l.initial.field

abbrev pub decreases-loop-rest : goal.decreases-loop-rest
decreases-loop-rest l = length l.rest
