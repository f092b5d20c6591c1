-- Refusals, of which the first counts.
use Rattle.std.specs.Prelude.{ℕ, Bool, List, [], ◌∷◌, Option, Some, None, if◌then◌else◌}
use Rattle.tree_machine.specs.State.{MachineState}
use Rattle.tree_machine.specs.Replies.{Reply}
use Rattle.tree_machine.specs.Replies.Reply.{Refused}

abbrev pub refused_if : Bool → ℕ → Option ℕ
refused_if test errno = if test then Some errno else None

-- what is unknown is refused
abbrev pub refused_unknown : {X : Type 0} → Option X → ℕ → Option ℕ
refused_unknown None errno = Some errno
refused_unknown (Some x) errno = None

abbrev pub first_refusal : List (Option ℕ) → Option ℕ
first_refusal [] = None
first_refusal (None ∷ more) = first_refusal more
first_refusal (Some errno ∷ more) = Some errno

-- a refusal changes nothing; where there is none, the effect is told
abbrev pub refused_or : MachineState → Option ℕ → Reply × MachineState → Reply × MachineState
refused_or m (Some errno) effect = (Refused errno, m)
refused_or m None effect = effect

-- a request that is refused before its first message takes none
abbrev pub none_or : Option ℕ → ℕ → ℕ
none_or (Some errno) number = 0
none_or None number = number
