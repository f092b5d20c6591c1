-- The flags that the options of a mount name.
use Rattle.std.specs.Prelude.{ℕ, List, Some, if◌then◌else◌, bytes_eq, codes}
use Rattle.std.specs.List.{fold}
use Rattle.std.specs.Int.RustNames.{bit_or}
use Rattle.port_base.specs.declared.flags.TheConstants.MsFlags.{MS_RDONLY, MS_NOSUID, MS_NODEV}
use Rattle.port_base.specs.declared.flags.TheConstants.MsFlags.{MS_NOEXEC, MS_SYNCHRONOUS}
use Rattle.port_base.specs.declared.flags.TheConstants.MsFlags.{MS_MANDLOCK, MS_DIRSYNC}
use Rattle.port_base.specs.declared.flags.TheConstants.MsFlags.{MS_NOATIME, MS_NODIRATIME}
use Rattle.port_base.specs.declared.flags.TheConstants.MsFlags.{MS_RELATIME, MS_STRICTATIME}
use Rattle.port_base.specs.Flags.{bits_of}
use Rattle.libmount.specs.Parts.{parts}

abbrev pub comma : ℕ
comma = 44

-- the flag of an option, or nothing
unfoldable pub flag_of : List ℕ → ℕ
flag_of word =
    if bytes_eq word (codes "ro") then bits_of MS_RDONLY else
    if bytes_eq word (codes "nosuid") then bits_of MS_NOSUID else
    if bytes_eq word (codes "nodev") then bits_of MS_NODEV else
    if bytes_eq word (codes "noexec") then bits_of MS_NOEXEC else
    if bytes_eq word (codes "mand") then bits_of MS_MANDLOCK else
    if bytes_eq word (codes "sync") then bits_of MS_SYNCHRONOUS else
    if bytes_eq word (codes "dirsync") then bits_of MS_DIRSYNC else
    if bytes_eq word (codes "noatime") then bits_of MS_NOATIME else
    if bytes_eq word (codes "nodiratime") then bits_of MS_NODIRATIME else
    if bytes_eq word (codes "relatime") then bits_of MS_RELATIME else
    if bytes_eq word (codes "strictatime") then bits_of MS_STRICTATIME else 0

abbrev pub with_option : ℕ → List ℕ → ℕ
with_option flags word = bit_or flags (flag_of word)

-- the flags of options with commas between them
unfoldable pub flags_of : List ℕ → ℕ
flags_of options = fold with_option 0 (parts comma (Some options))
