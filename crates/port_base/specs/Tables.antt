-- What stands next in a map from numbers.
use Rattle.std.specs.Prelude.{ℕ, Option, nat_lt, find}
use Rattle.std.specs.Ordering.{nat_cmp}
use Rattle.std.specs.FinMap as map
use Rattle.std.specs.FinMap.{FinMap}

-- the least key above the given one, with its value
abbrev pub next_after : {X : Type 0} → ℕ → FinMap nat_cmp X → Option (ℕ × X)
next_after key m = find (λ e. nat_lt key e.0) (map.entries m)
