-- Calls that fault by their numbers.
use Rattle.std.proofs.Common.{◌≡◌, ℕ, List, [], ◌∷◌, Bool, true, false, Some, inl, inr, refl}
use Rattle.std.proofs.lemmas.Bool.{false≢true}
use Rattle.std.specs.Prelude.{nat_lt, ◌^◌, ◌-◌, ◌&&◌}
use Rattle.port_base.specs.Failing.{Script, is_due, is_empty, is_quiet}
use Rattle.libmount.specs.Mounters.{Calls, FaultedIn}
use Rattle.libmount.specs.Probes.{Facts, ToldBy}

and_false : (b : Bool) → (b && false) ≡ false
and_false true = refl
and_false false = refl

loud : (calls : ℕ) (numbers : List ℕ) → is_due (record { numbers = numbers; calls = calls }) ≡ true
    → is_empty numbers ≡ false
loud calls [] due = absurd (false≢true (rw (← and_false (nat_lt calls (2 ^ 64 - 1))) due))
loud calls (n ∷ ns) due = refl

-- a script that lists a call is not one that lists none
pub due_is_loud : (script : Script) → is_due script ≡ true → is_quiet script ≡ false
due_is_loud script due = loud script.calls script.numbers due

pub told_fact : {A : Type 0} (facts : Facts) (view : Facts → A) (fault answer : A) (old new : Calls)
    → answer ≡ view facts → new ≡ old → ToldBy (Some facts) view fault answer old new
told_fact facts view fault answer old new is same = record { answered = inl (is, same) }

pub told_fault : {A : Type 0} (facts : Facts) (view : Facts → A) (fault : A) (old new : Calls)
    → FaultedIn old new → ToldBy (Some facts) view fault fault old new
told_fault facts view fault old new faulted = record { answered = inr (refl, faulted) }
