-- Numbers at places of a frame, the least byte first.
use Rattle.std.specs.Prelude.{ℕ, List, take, drop, if◌then◌else◌, Option, Some, None}
use Rattle.std.specs.Int.{w32, w64, from_le_bytes}
use Rattle.port_base.specs.OpenFlags.{has_flag}

-- the number in the 4 bytes from a place on
unfoldable pub u32_at : List ℕ → ℕ → ℕ
u32_at bytes at = from_le_bytes w32 (take 4 (drop at bytes))

-- the number in the 8 bytes from a place on
unfoldable pub u64_at : List ℕ → ℕ → ℕ
u64_at bytes at = from_le_bytes w64 (take 8 (drop at bytes))

-- a value that a flag says is given
abbrev pub given : ℕ → ℕ → ℕ → Option ℕ
given flags flag value = if has_flag flag flags then Some value else None
