-- Which fids there are.
use Rattle.std.specs.Prelude.{◌≡◌, ℕ, ◌<◌, ◌≤◌, IsSome, None}
use Rattle.std.specs.FinMap as map
use Rattle.fid_model.specs.Fids.{Fids}

-- the fids 1 to n are there, and no others
pub record HasFids (n : ℕ) (fids : Fids) : Type 0 where
  pub known : (i : ℕ) → 1 ≤ i → i ≤ n → IsSome (map.get fids i)
  pub fresh : (i : ℕ) → n < i → map.get fids i ≡ None
  pub count : map.len fids ≡ n
