-- Texts in parts.
use Rattle.std.specs.Prelude.{ℕ, ◌+◌, List, take, drop, Option, ◌==◌, position, option_map}

-- what stands before the first such byte, and what stands after it
unfoldable pub split_once : ℕ → List ℕ → Option (List ℕ × List ℕ)
split_once byte text =
    option_map (λ i. (take i text, drop (i + 1) text)) (position (λ b. b == byte) text)
