-- Nothing is held before the first call.
use Rattle.std.proofs.Common.{◌≡◌, ℕ, ap, ◌∙◌, arith}
use Rattle.std.specs.FinMap.{empty}
use Rattle.tree_host.specs.Holds.{Holds, hold_count}
use Rattle.tree_host.proofs.Held.{hold_count-empty}
use Rattle.tree_host.proofs.memory.call_tests.started.Goals as goal

no_holds : (h : Holds) → h ≡ empty → (i : ℕ) → hold_count h i ≡ 0
no_holds h is i = ap (λ h. hold_count h i) is ∙ hold_count-empty i

pub returns : goal.returns
returns g c i =
    let zero = no_holds c.put_directory-2.new.host.holds
    (c.put_directory-2.ensures ∙ c.put_directory.ensures ∙ c.fail_at.ensures.holds
    ∙ c.in_ok-host.ensures.holds) i in
    omega (arith, zero)
