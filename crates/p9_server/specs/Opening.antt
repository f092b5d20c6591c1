-- What opening an inode of a host tells, and what it leaves of the tree.
use Rattle.std.specs.Prelude.{◌≡◌, ◌⊎◌, ℕ, Result, Ok, Err}
use Rattle.tree_model.specs.Tree.{Tree}
use Rattle.tree_model.specs.Attributes.{stat_of}
use Rattle.tree_model.specs.declared.attributes.Attr.{Attr}
use Rattle.tree_model.specs.declared.attributes.HostError.{HostError}
use Rattle.tree_model.specs.declared.attributes.HostError.TheVariants.{Errno, Fault, NoMemory}
use Rattle.fid_model.specs.Answers.{open_of}

abbrev pub OpensBy : Tree → Tree → ℕ → ℕ → Result Attr HostError → Type 0
OpensBy t u ino flags (Ok a) = (open_of t ino flags ≡ Ok (tt, u)) × (stat_of u ino ≡ Ok a)
OpensBy t u ino flags (Err (Errno e)) = (open_of t ino flags ≡ Err e) × (u ≡ t)
OpensBy t u ino flags (Err Fault) = (u ≡ t) ⊎ (open_of t ino flags ≡ Ok (tt, u))
OpensBy t u ino flags (Err NoMemory) = u ≡ t

-- an inode may be opened so, and what is told of it then; or the first refusal; after a fault the
-- tree is as it was or as opened
pub record Opens (t u : Tree) (ino flags : ℕ) (result : Result Attr HostError) : Type 0 where
  pub exactly : OpensBy t u ino flags result
