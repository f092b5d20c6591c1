use Rattle.std.proofs.Common.{◌≡◌, ◌≤◌, length}
use Rattle.port_base.specs.Paths.{names}
use Rattle.fuse_mnt.proofs.paths.first_name.Given as goal

abbrev pub invariant-parts : goal.invariant-parts
invariant-parts l = record {
  same : names l.path ≡ names l.rest;
  shorter : length l.rest ≤ length
      l.path;
}

abbrev pub decreases-parts : goal.decreases-parts
decreases-parts l = length l.rest
