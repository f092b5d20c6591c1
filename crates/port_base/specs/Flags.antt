-- The flags of a mount, as numbers.
use Rattle.std.specs.Prelude.{ℕ, ◌-◌, ◌^◌, List, [], ◌∷◌, codes}
use Rattle.std.specs.List.{fold}
use Rattle.std.specs.Int.RustNames.{bit_and, bit_or}
use Rattle.port_base.specs.declared.flags.MsFlags.{MsFlags}
use Rattle.port_base.specs.declared.flags.TheConstants.MsFlags.{MS_RDONLY, MS_NOSUID, MS_NODEV}
use Rattle.port_base.specs.declared.flags.TheConstants.MsFlags.{MS_NOEXEC, MS_SYNCHRONOUS}
use Rattle.port_base.specs.declared.flags.TheConstants.MsFlags.{MS_REMOUNT, MS_MANDLOCK}
use Rattle.port_base.specs.declared.flags.TheConstants.MsFlags.{MS_DIRSYNC, MS_NOATIME}
use Rattle.port_base.specs.declared.flags.TheConstants.MsFlags.{MS_NODIRATIME, MS_BIND, MS_MOVE}
use Rattle.port_base.specs.declared.flags.TheConstants.MsFlags.{MS_REC, MS_RELATIME}
use Rattle.port_base.specs.declared.flags.TheConstants.MsFlags.{MS_STRICTATIME}

-- the bits of a set of flags
abbrev pub bits_of : MsFlags → ℕ
bits_of flags = flags.bits

-- each flag's name and bit
abbrev pub flag_table : List (List ℕ × ℕ)
flag_table =
    (codes "MS_RDONLY", MS_RDONLY.bits)
    ∷ (codes "MS_NOSUID", MS_NOSUID.bits)
    ∷ (codes "MS_NODEV", MS_NODEV.bits)
    ∷ (codes "MS_NOEXEC", MS_NOEXEC.bits)
    ∷ (codes "MS_SYNCHRONOUS", MS_SYNCHRONOUS.bits)
    ∷ (codes "MS_REMOUNT", MS_REMOUNT.bits)
    ∷ (codes "MS_MANDLOCK", MS_MANDLOCK.bits)
    ∷ (codes "MS_DIRSYNC", MS_DIRSYNC.bits)
    ∷ (codes "MS_NOATIME", MS_NOATIME.bits)
    ∷ (codes "MS_NODIRATIME", MS_NODIRATIME.bits)
    ∷ (codes "MS_BIND", MS_BIND.bits)
    ∷ (codes "MS_MOVE", MS_MOVE.bits)
    ∷ (codes "MS_REC", MS_REC.bits)
    ∷ (codes "MS_RELATIME", MS_RELATIME.bits)
    ∷ (codes "MS_STRICTATIME", MS_STRICTATIME.bits)
    ∷ []

-- the bits that a flag names
abbrev pub known_flags : ℕ
known_flags = fold (λ bits row. bit_or bits row.1) 0 flag_table

-- the bits of one number that another doesn't have
abbrev pub without : ℕ → ℕ → ℕ
without bits taken = bit_and bits (2 ^ 64 - 1 - taken)
