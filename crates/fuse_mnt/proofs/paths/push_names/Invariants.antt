use Rattle.std.proofs.Common.{◌≡◌, ◌++◌, length}
use Rattle.std.specs.List.{flat_map}
use Rattle.port_base.specs.Paths.{names}
use Rattle.fuse_mnt.specs.Tables.{behind_slash}
use Rattle.fuse_mnt.proofs.paths.push_names.Given as goal

abbrev pub invariant-names : goal.invariant-names
invariant-names l = l.out.items ++ flat_map behind_slash (names l.rest) ≡ l.initial.out.items
    ++ flat_map behind_slash (names l.path)

abbrev pub decreases-names : goal.decreases-names
decreases-names l = length l.rest
