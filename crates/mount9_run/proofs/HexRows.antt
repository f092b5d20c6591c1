-- The lines of hex that are still to be written, one line on.
use Rattle.std.proofs.Common.{◌≡◌, ℕ, ◌+◌, List, [], ◌∷◌, ◌++◌, take, drop, refl, add-one}
use Rattle.hex.specs.Hex.{encode_lower}
use Rattle.mount9_run.specs.ReportLines.{hex_rows}

pub hex_rows-step : (k n : ℕ) (bytes row more : List ℕ) → k ≡ n + 1 → row ≡ take 32 bytes
    → more ≡ drop 32 bytes → hex_rows k bytes ≡ (encode_lower row ++ 10 ∷ []) ++ hex_rows n more
unfolding hex_rows
hex_rows-step k n bytes row more e r m = rw (e, add-one, r, m) refl

pub hex_rows-end : (k : ℕ) (bytes : List ℕ) → k ≡ 0 → hex_rows k bytes ≡ []
unfolding hex_rows
hex_rows-end k bytes e = rw e refl
