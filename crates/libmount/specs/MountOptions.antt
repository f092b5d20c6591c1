-- The options of a mount as its row shows them.
use Rattle.std.specs.Prelude.{ℕ, List, [], ◌∷◌, ◌++◌, filter, ◌==◌, if◌then◌else◌, codes}
use Rattle.std.specs.List.{fold, flat_map}
use Rattle.std.specs.Int.RustNames.{bit_and, bit_or}
use Rattle.port_base.specs.declared.flags.TheConstants.MsFlags.{MS_RDONLY, MS_NOSUID, MS_NODEV}
use Rattle.port_base.specs.declared.flags.TheConstants.MsFlags.{MS_NOEXEC, MS_SYNCHRONOUS}
use Rattle.port_base.specs.declared.flags.TheConstants.MsFlags.{MS_MANDLOCK, MS_DIRSYNC}
use Rattle.port_base.specs.declared.flags.TheConstants.MsFlags.{MS_NOATIME, MS_NODIRATIME}
use Rattle.port_base.specs.declared.flags.TheConstants.MsFlags.{MS_RELATIME, MS_STRICTATIME}
use Rattle.port_base.specs.Flags.{bits_of}
use Rattle.libmount.specs.BuilderTexts.{Named, is_set}

-- the options that come behind `ro` or `rw`, in their order
abbrev pub shown_names : List Named
shown_names =
    record { flag = bits_of MS_NOSUID; name = codes "nosuid" }
    ∷ record { flag = bits_of MS_NODEV; name = codes "nodev" }
    ∷ record { flag = bits_of MS_NOEXEC; name = codes "noexec" }
    ∷ record { flag = bits_of MS_SYNCHRONOUS; name = codes "sync" }
    ∷ record { flag = bits_of MS_DIRSYNC; name = codes "dirsync" }
    ∷ record { flag = bits_of MS_MANDLOCK; name = codes "mand" }
    ∷ record { flag = bits_of MS_NOATIME; name = codes "noatime" }
    ∷ record { flag = bits_of MS_NODIRATIME; name = codes "nodiratime" }
    ∷ record { flag = bits_of MS_RELATIME; name = codes "relatime" }
    ∷ record { flag = bits_of MS_STRICTATIME; name = codes "strictatime" }
    ∷ []

-- the flags that a row shows
abbrev pub shown_flags : ℕ
shown_flags = fold (λ flags (row : Named). bit_or flags row.flag) (bits_of MS_RDONLY) shown_names

abbrev pub behind_comma : Named → List ℕ
behind_comma row = codes "," ++ row.name

unfoldable pub option_names : ℕ → List ℕ
option_names flags =
    (if bit_and flags (bits_of MS_RDONLY) == bits_of MS_RDONLY then codes "ro" else codes "rw")
    ++ flat_map behind_comma (filter (is_set flags) shown_names)
