use Rattle.std.proofs.Common.{◌≡◌, ◌++◌, map, take}
use Rattle.std.specs.Prelude.{filter}
use Rattle.std.specs.List.{flat_map}
use Rattle.port_base.specs.Flags.{bits_of}
use Rattle.libmount.specs.BuilderTexts.{is_set}
use Rattle.libmount.specs.MountOptions.{behind_comma}
use Rattle.libmount.specs.MountTables.{read_or_write}
use Rattle.fuse_mnt.specs.Tables.{named}
use Rattle.fuse_mnt.proofs.rows.options_of.Given as goal

abbrev pub invariant-loop-shown : goal.invariant-loop-shown
invariant-loop-shown l = l.out.items ≡ read_or_write (bits_of l.flags)
    ++ flat_map behind_comma (filter (is_set (bits_of l.flags))
    (map named (take l.shown-index l.shown-items)))
