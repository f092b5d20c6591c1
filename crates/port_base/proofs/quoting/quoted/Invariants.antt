use Rattle.std.proofs.Common.{◌≡◌, ◌++◌, take, codes}
use Rattle.std.specs.List.{flat_map}
use Rattle.port_base.specs.Quoting.{quoted_byte}
use Rattle.port_base.proofs.quoting.quoted.Given as goal

abbrev pub invariant-loop-byte : goal.invariant-loop-byte
invariant-loop-byte l = l.out.items ≡ codes "\"" ++ flat_map quoted_byte (take l.byte-index l.path)
