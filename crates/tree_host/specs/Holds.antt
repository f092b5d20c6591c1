-- How often each inode is held.
use Rattle.std.specs.Prelude.{ℕ, ◌+◌, ◌-◌, Bool, unwrap_or, nat_lt, if◌then◌else◌}
use Rattle.std.specs.Ordering.{nat_cmp}
use Rattle.std.specs.FinMap as map
use Rattle.std.specs.FinMap.{FinMap}

-- the number of holds of each inode that has one
abbrev pub Holds : Type 0
Holds = FinMap nat_cmp ℕ

abbrev pub hold_count : Holds → ℕ → ℕ
hold_count h i = unwrap_or (map.get h i) 0

abbrev pub is_held : Holds → ℕ → Bool
is_held h i = nat_lt 0 (hold_count h i)

-- one hold more
abbrev pub held_more : Holds → ℕ → Holds
held_more h i = map.insert h i (hold_count h i + 1)

-- one hold less: the last takes the inode away
abbrev pub held_less : Holds → ℕ → Holds
held_less h i = if nat_lt 1 (hold_count h i) then map.insert h i (hold_count h i - 1)
    else map.remove h i
