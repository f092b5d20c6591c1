-- Flags of an open file, as `open(2)` has them.
use Rattle.std.specs.Prelude.{ℕ, ◌%◌, Bool, not, ◌==◌}
use Rattle.std.specs.Int.RustNames.{bit_and}

-- how a file is opened: 0 to read, 1 to write, 2 for both; 3 is refused
abbrev pub access : ℕ → ℕ
access flags = flags % 4

-- the flag is set
abbrev pub has_flag : ℕ → ℕ → Bool
has_flag flag flags = not (bit_and flags flag == 0)
