use Rattle.std.proofs.Common.{◌≡◌, length, drop}
use Rattle.port_base.specs.Paths.{names}
use Rattle.fuse_mnt.proofs.paths.behind_names.Given as goal

abbrev pub invariant-names : goal.invariant-names
invariant-names l = drop (length (names l.left)) (names l.rest) ≡ drop (length (names l.other))
    (names l.path)

abbrev pub decreases-names : goal.decreases-names
decreases-names l = length l.left
