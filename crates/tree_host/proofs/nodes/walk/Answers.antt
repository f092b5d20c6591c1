-- A walk along the parts of the split is one along the names.
use Rattle.std.proofs.Common.{ap, ◌∙◌}
use Rattle.tree_host.specs.Host.{as_errno}
use Rattle.tree_host.specs.Kept.{tree_from}
use Rattle.tree_host.proofs.Results.{walk_of-root_of, errno_of}
use Rattle.tree_host.proofs.nodes.walk.Goals as goal

pub returns-clause-answer : goal.returns-clause-answer
returns-clause-answer c = λ next limits moment. c.end_of_walk.ensures _ c.reach.ensures
    ∙ ap as_errno (walk_of-root_of (tree_from c.args.nodes.now next limits moment) c.args.path.now)

pub returns-clause-errno : goal.returns-clause-errno
returns-clause-errno c = errno_of c.end_of_walk.result _ (c.end_of_walk.ensures _ c.reach.ensures)
