-- The walk so far.
use Rattle.std.proofs.Common.{◌≡◌, map, Ok}
use Rattle.tree_model.specs.declared.attributes.TheConstants.{TOP}
use Rattle.tree_host.specs.Host.{as_errno}
use Rattle.tree_host.specs.Walking.{walk_parts}
use Rattle.tree_host.proofs.nodes.reach.Given as goal

abbrev pub invariant-loop-part : goal.invariant-loop-part
invariant-loop-part l = l.at ≡ as_errno (walk_parts l.nodes (Ok TOP) (map (λ p. p.now) l.yielded))
