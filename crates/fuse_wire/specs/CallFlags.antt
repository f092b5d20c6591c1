-- The bits of the flags that requests carry.
use Rattle.std.specs.Prelude.{ℕ}
use Rattle.fuse_wire.specs.declared.call_flags.GetattrFlags.{GetattrFlags}
use Rattle.fuse_wire.specs.declared.call_flags.ReadFlags.{ReadFlags}
use Rattle.fuse_wire.specs.declared.call_flags.CopyFileRangeFlags.{CopyFileRangeFlags}

abbrev pub getattr_bits : GetattrFlags → ℕ
getattr_bits flags = flags.bits

abbrev pub read_bits : ReadFlags → ℕ
read_bits flags = flags.bits

abbrev pub copy_bits : CopyFileRangeFlags → ℕ
copy_bits flags = flags.bits
