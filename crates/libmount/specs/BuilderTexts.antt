-- What the builders print, and the options of their mounts.
use Rattle.std.specs.Prelude.{ℕ, List, [], ◌∷◌, ◌++◌, Bool, false, Option, Some, None, nat_lt}
use Rattle.std.specs.Prelude.{◌==◌, ◌||◌, if◌then◌else◌, codes, filter}
use Rattle.std.specs.Fmt.{decimal, digits}
use Rattle.std.specs.Int.RustNames.{bit_and}
use Rattle.std.specs.List.{filter_map, flat_map, join_by}
use Rattle.port_base.specs.declared.flags.TheConstants.MsFlags.{MS_RDONLY, MS_NOSUID, MS_NODEV}
use Rattle.port_base.specs.declared.flags.TheConstants.MsFlags.{MS_NOEXEC, MS_SYNCHRONOUS}
use Rattle.port_base.specs.declared.flags.TheConstants.MsFlags.{MS_MANDLOCK, MS_DIRSYNC}
use Rattle.port_base.specs.declared.flags.TheConstants.MsFlags.{MS_NOATIME, MS_NODIRATIME, MS_BIND}
use Rattle.port_base.specs.declared.flags.TheConstants.MsFlags.{MS_RELATIME, MS_STRICTATIME}
use Rattle.port_base.specs.Flags.{bits_of}
use Rattle.port_base.specs.Quoting.{quoted}
use Rattle.libmount.specs.declared.flag_change.FlagName.{FlagName}
use Rattle.libmount.specs.declared.tmpfs.Size.TheVariants.{Bytes, Blocks}
use Rattle.libmount.specs.declared.tmpfs.TmpfsOption.{TmpfsOption}
use Rattle.libmount.specs.declared.tmpfs.TmpfsOption.TheVariants.{Size, NrInodes, Mode, Uid, Gid}
use Rattle.libmount.specs.Builders.{Bind, Relocation, Upper, Layers, InMemory, FlagChange}
use Rattle.libmount.specs.Builders.{options_of}

abbrev pub arrow : List ℕ
arrow = codes " -> "

unfoldable pub bind_text : Bind → List ℕ
bind_text bind = (if bind.recursive then codes "recursive " else [])
    ++ (codes "bind mount " ++ (quoted bind.source ++ (arrow ++ quoted bind.target)))

unfoldable pub relocation_text : Relocation → List ℕ
relocation_text move = codes "move " ++ (quoted move.source ++ (arrow ++ quoted move.target))

-- ---- overlays

-- colons stand between directories and commas between options: these two and the backslash get a
-- backslash before them
abbrev pub escaped_byte : ℕ → List ℕ
escaped_byte byte = if (byte == 92) || ((byte == 58) || (byte == 44)) then 92 ∷ byte ∷ [] else byte
    ∷ []

unfoldable pub escaped_dir : List ℕ → List ℕ
escaped_dir path = flat_map escaped_byte path

abbrev pub upper_options : Option Upper → List ℕ
upper_options None = []
upper_options (Some upper) =
    codes ",upperdir="
    ++ (escaped_dir upper.upperdir ++ (codes ",workdir=" ++ escaped_dir upper.workdir))

unfoldable pub overlay_options : Layers → List ℕ
overlay_options overlay =
    codes "lowerdir="
    ++ (join_by escaped_dir (codes ":") overlay.lowerdirs ++ upper_options overlay.upper)

abbrev pub upper_text : Option Upper → List ℕ
upper_text None = []
upper_text (Some upper) =
    codes ",upperdir=" ++ (quoted upper.upperdir ++ (codes ",workdir=" ++ quoted upper.workdir))

unfoldable pub overlay_text : Layers → List ℕ
overlay_text overlay =
    codes "overlayfs "
    ++ (join_by quoted (codes ":") overlay.lowerdirs
    ++ (upper_text overlay.upper ++ (arrow ++ quoted overlay.target)))

-- ---- file systems in memory

-- what makes the octal digits of a number four at least
abbrev pub leading_zeros : ℕ → List ℕ
leading_zeros n = if nat_lt n 8 then codes "000" else if nat_lt n 64 then codes "00"
    else if nat_lt n 512 then codes "0" else []

abbrev pub four_octal_digits : ℕ → List ℕ
four_octal_digits n = leading_zeros n ++ digits 8 false n

abbrev pub option_text : TmpfsOption → List ℕ
option_text (Size (Bytes n)) = codes "size=" ++ decimal n
option_text (Size (Blocks n)) = codes "nr_blocks=" ++ decimal n
option_text (NrInodes n) = codes "nr_inodes=" ++ decimal n
option_text (Mode n) = codes "mode=0" ++ four_octal_digits n
option_text (Uid n) = codes "uid=" ++ decimal n
option_text (Gid n) = codes "gid=" ++ decimal n

-- those that are set, with commas between them
unfoldable pub options_text : List (Option TmpfsOption) → List ℕ
options_text options = join_by option_text (codes ",") (filter_map (λ option. option) options)

unfoldable pub tmpfs_options : InMemory → List ℕ
tmpfs_options tmpfs = options_text (options_of tmpfs)

unfoldable pub tmpfs_text : InMemory → List ℕ
tmpfs_text tmpfs = codes "tmpfs " ++ (tmpfs_options tmpfs ++ (arrow ++ quoted tmpfs.target))

-- ---- changes of flags

-- a flag's bits, and its name among the options of a mount
pub record Named : Type 0 where
  pub flag : ℕ
  pub name : List ℕ

abbrev pub named : FlagName → Named
named row = record { flag = bits_of row.flag; name = row.name.now }

abbrev pub flag_names : List Named
flag_names =
    record { flag = bits_of MS_BIND; name = codes "bind" }
    ∷ record { flag = bits_of MS_RDONLY; name = codes "ro" }
    ∷ record { flag = bits_of MS_NODEV; name = codes "nodev" }
    ∷ record { flag = bits_of MS_NOEXEC; name = codes "noexec" }
    ∷ record { flag = bits_of MS_NOSUID; name = codes "nosuid" }
    ∷ record { flag = bits_of MS_NOATIME; name = codes "noatime" }
    ∷ record { flag = bits_of MS_NODIRATIME; name = codes "nodiratime" }
    ∷ record { flag = bits_of MS_RELATIME; name = codes "relatime" }
    ∷ record { flag = bits_of MS_STRICTATIME; name = codes "strictatime" }
    ∷ record { flag = bits_of MS_DIRSYNC; name = codes "dirsync" }
    ∷ record { flag = bits_of MS_SYNCHRONOUS; name = codes "sync" }
    ∷ record { flag = bits_of MS_MANDLOCK; name = codes "mand" }
    ∷ []

-- the flag is among those that are set
abbrev pub is_set : ℕ → Named → Bool
is_set flags row = bit_and flags row.flag == row.flag

abbrev pub name_of : Named → List ℕ
name_of row = row.name

-- the names of those that are set, with commas between them
unfoldable pub names_of : ℕ → List Named → List ℕ
names_of flags rows = join_by name_of (codes ",") (filter (is_set flags) rows)

abbrev pub set_names : ℕ → List ℕ
set_names flags = names_of flags flag_names

-- the names of the flags that are set and a space, where a flag is set
abbrev pub set_text : ℕ → List ℕ
set_text flags = if flags == 0 then [] else set_names flags ++ codes " "

unfoldable pub remount_text : FlagChange → List ℕ
remount_text change = set_text change.set ++ (codes "remount " ++ quoted change.path)
