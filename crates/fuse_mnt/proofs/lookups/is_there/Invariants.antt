use Rattle.std.proofs.Common.{◌≡◌, drop}
use Rattle.std.specs.List.{list_any}
use Rattle.port_base.specs.Paths.{same_path}
use Rattle.port_base.specs.Words.{words_of}
use Rattle.fuse_mnt.proofs.lookups.is_there.Given as goal

abbrev pub invariant-loop-there : goal.invariant-loop-there
invariant-loop-there l = list_any (same_path l.path) (words_of l.present) ≡ list_any
    (same_path l.path) (words_of (drop l.there-index l.present))
