-- What each builder mounts.
use Rattle.std.specs.Prelude.{◌≡◌, ℕ, List, Bool, true, false, ◌==◌, [], ◌∷◌, Option, Result, Ok}
use Rattle.std.specs.Prelude.{Err}
use Rattle.std.specs.List.{list_any}
use Rattle.std.specs.Int.RustNames.{bit_or}
use Rattle.port_base.specs.Flags.{without}
use Rattle.libmount.specs.declared.path_list.PathError.{PathError}
use Rattle.libmount.specs.declared.path_list.PathError.TheVariants.{NulInPath, NoMemory}
use Rattle.std.specs.Option.{option_map}
use Rattle.libmount.specs.declared.tmpfs.Size.{Size}
use Rattle.libmount.specs.declared.tmpfs.TmpfsOption.{TmpfsOption}
use Rattle.libmount.specs.declared.tmpfs.TmpfsOption.TheVariants as option

-- one place shown at another too
pub record Bind : Type 0 where
  pub source : List ℕ
  pub target : List ℕ
  pub recursive : Bool
  pub readonly : Bool

-- a mount that goes to another place
pub record Relocation : Type 0 where
  pub source : List ℕ
  pub target : List ℕ

-- the directory that takes what is written to an overlay, and the one that its file system works in
pub record Upper : Type 0 where
  pub upperdir : List ℕ
  pub workdir : List ℕ

-- directories over one another, the top one first
pub record Layers : Type 0 where
  pub lowerdirs : List (List ℕ)
  pub upper : Option Upper
  pub target : List ℕ

-- a file system in memory
pub record InMemory : Type 0 where
  pub target : List ℕ
  pub size : Option Size
  pub nr_inodes : Option ℕ
  pub mode : Option ℕ
  pub uid : Option ℕ
  pub gid : Option ℕ

-- its options in their order, each where it is set
abbrev pub options_of : InMemory → List (Option TmpfsOption)
options_of tmpfs =
    option_map option.Size tmpfs.size
    ∷ option_map option.NrInodes tmpfs.nr_inodes
    ∷ option_map option.Mode tmpfs.mode
    ∷ option_map option.Uid tmpfs.uid
    ∷ option_map option.Gid tmpfs.gid
    ∷ []

-- flags that a mount gets, and flags that are taken from it
pub record FlagChange : Type 0 where
  pub path : List ℕ
  pub set : ℕ
  pub cleared : ℕ

-- the change that sets a flag, or clears it, and is else as before
abbrev pub with_flag : ℕ → Bool → FlagChange → FlagChange
with_flag flag true change =
    record change { set = bit_or change.set flag; cleared = without change.cleared flag }
with_flag flag false change =
    record change { set = without change.set flag; cleared = bit_or change.cleared flag }

-- what a change makes of flags
abbrev pub apply_to_flags : FlagChange → ℕ → ℕ
apply_to_flags change flags = bit_or (without flags change.cleared) change.set

-- a zero byte is in the path
abbrev pub has_nul : List ℕ → Bool
has_nul path = list_any (λ byte. byte == 0) path

-- a path is refused, or the builder is the one that was asked for; out of memory tells of paths
-- without fault alone
abbrev pub MakesBy : {A : Type 0} → Bool → A → Result A PathError → Type 0
MakesBy nul wanted (Ok made) = (nul ≡ false) × (made ≡ wanted)
MakesBy nul wanted (Err NulInPath) = nul ≡ true
MakesBy nul wanted (Err NoMemory) = nul ≡ false

pub record Makes {A : Type 0} (nul : Bool) (wanted : A) (result : Result A PathError) : Type 0 where
  pub made : MakesBy nul wanted result
