-- Calls that fail by their numbers.
use Rattle.std.specs.Prelude.{ℕ, ◌+◌, ◌-◌, ◌^◌, min, Bool, true, false, ◌&&◌, ◌==◌, nat_lt, List}
use Rattle.std.specs.Prelude.{[], ◌∷◌}
use Rattle.std.specs.List.{list_any}

-- the numbers of the calls that fail, from 0 on, and how many calls there were
pub record Script : Type 0 where
  pub numbers : List ℕ
  pub calls : ℕ

-- one more, up to 2^64 - 1
abbrev pub counted : ℕ → ℕ
counted n = min (n + 1) (2 ^ 64 - 1)

-- the next call fails; the number 2^64 - 1 names no call
abbrev pub is_due : Script → Bool
is_due s = nat_lt s.calls (2 ^ 64 - 1) && list_any (λ number. number == s.calls) s.numbers

-- one call more
abbrev pub after_call : Script → Script
after_call s = record s { calls = counted s.calls }

abbrev pub is_empty : List ℕ → Bool
is_empty [] = true
is_empty (number ∷ numbers) = false

-- no call fails
abbrev pub is_quiet : Script → Bool
is_quiet s = is_empty s.numbers

-- calls that are counted: which of them fail, and how many did
pub record CountedCalls : Type 0 where
  pub script : Script
  pub faults : ℕ

-- no call was made yet
abbrev pub first_calls : List ℕ → CountedCalls
first_calls numbers = record { script = record { numbers = numbers; calls = 0 }; faults = 0 }
