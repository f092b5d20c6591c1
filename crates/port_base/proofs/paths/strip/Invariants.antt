use Rattle.std.proofs.Common.{◌≡◌, length}
use Rattle.port_base.specs.Paths.{components_left, strip}
use Rattle.port_base.proofs.paths.strip.Given as goal

abbrev pub invariant-parts : goal.invariant-parts
invariant-parts l = strip (components_left l.fn.path) (components_left l.fn.base) ≡ strip
    (components_left l.path) (components_left l.base)

abbrev pub decreases-parts : goal.decreases-parts
decreases-parts l = length (components_left l.base)
