-- The top is held once then.
use Rattle.std.proofs.Common.{ap, arith}
use Rattle.tree_host.specs.Holds.{hold_count}
use Rattle.tree_host.proofs.Held.{hold_count-more_le}
use Rattle.tree_host.proofs.memory.call_tests.held.Goals as goal

pub enter-requires-clause-few : goal.enter-requires-clause-few
enter-requires-clause-few g c i =
    let le = hold_count-more_le c.args.host.now.holds c.in_ok-attach_path.field-0 i in
    let same = ap (λ h. hold_count h i) c.in_ok-attach_path.ensures.held in
    let none = c.requires i in
    omega (arith, le, same, none)
