-- What follows where no refusal of a list stands.
use Rattle.std.proofs.Common.{◌≡◌, ℕ, Bool, true, false, List, ◌∷◌, refl, Option, Some, None}
use Rattle.tree_machine.specs.Refusals.{refused_if, first_refusal}

pub passes : (o : Option ℕ) (more : List (Option ℕ)) → first_refusal (o ∷ more) ≡ None → (o ≡ None)
    × (first_refusal more ≡ None)
passes None more none = (refl, none)
passes (Some e) more none = absurd cc

pub fails : (test : Bool) (errno : ℕ) → refused_if test errno ≡ None → test ≡ false
fails true errno none = absurd cc
fails false errno none = refl
