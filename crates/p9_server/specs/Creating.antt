-- What making a file in a host's tree tells, and what it leaves.
use Rattle.std.specs.Prelude.{◌≡◌, ◌⊎◌, ℕ, Bool, true, false, List, Result, Ok, Err}
use Rattle.tree_model.specs.Tree.{Tree}
use Rattle.tree_model.specs.Attributes.{stat_of}
use Rattle.tree_model.specs.declared.attributes.Attr.{Attr}
use Rattle.tree_model.specs.declared.attributes.Kind.{Kind}
use Rattle.tree_model.specs.declared.attributes.Kind.TheVariants as kind
use Rattle.tree_model.specs.declared.attributes.HostError.{HostError}
use Rattle.tree_model.specs.declared.attributes.HostError.TheVariants.{Errno, Fault, NoMemory}
use Rattle.fid_model.specs.Files.{new_file_of}

abbrev pub is_directory_kind : Kind → Bool
is_directory_kind kind.File = false
is_directory_kind kind.Directory = true
is_directory_kind kind.Link = false

-- the tree has a new file
abbrev pub IsMade : Tree → Tree → ℕ → List ℕ → ℕ → ℕ → Type 0
IsMade t u dir name flags mode = (ino : ℕ) × (new_file_of t dir name flags mode ≡ Ok (ino, u))

abbrev pub CreatesBy : Tree → Tree → ℕ → List ℕ → ℕ → ℕ → Result Attr HostError → Type 0
CreatesBy t u dir name flags mode (Ok a) = (new_file_of t dir name flags mode ≡ Ok (a.ino, u))
    × (stat_of u a.ino ≡ Ok a)
CreatesBy t u dir name flags mode (Err (Errno e)) = (new_file_of t dir name flags mode ≡ Err e)
    × (u ≡ t)
CreatesBy t u dir name flags mode (Err Fault) = (u ≡ t) ⊎ IsMade t u dir name flags mode
CreatesBy t u dir name flags mode (Err NoMemory) = u ≡ t

-- a file is made, and what is told of it; or the first refusal; after a fault the tree is as it
-- was or with the file
pub record Creates (t u : Tree) (dir : ℕ) (name : List ℕ) (flags mode : ℕ)
    (result : Result Attr HostError) : Type 0 where
  pub exactly : CreatesBy t u dir name flags mode result
