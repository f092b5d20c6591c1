-- What a path leads to is stored, since the tree is good.
use Rattle.std.proofs.Common.{sym}
use Rattle.tree_host.specs.TreeHosts.{tree}
use Rattle.mount9_run.proofs.HeaderPlaces.{found_is_stored}
use Rattle.mount9_run.proofs.header.tree.standing.Goals as goal

pub returns-in-Some-clause-stored : goal.returns-in-Some-clause-stored
returns-in-Some-clause-stored c = found_is_stored (tree c.args.host.now) c.args.host.now.good
    c.args.path.now c.in-Some.ino (sym c.in-Some.ensures)
