-- What is found stands at the end of the walk.
use Rattle.tree_host.specs.Kept.{tree_from}
use Rattle.tree_host.proofs.Results.{found_by_ok, found_by_err}
use Rattle.tree_host.proofs.nodes.find.Goals as goal

pub returns-in-Ok : goal.returns-in-Ok
returns-in-Ok c = λ next limits moment. found_by_ok (tree_from c.args.nodes.now next limits moment)
    c.args.path.now c.in-Ok.ino c.in-Ok.ensures

pub returns-in-Err : goal.returns-in-Err
returns-in-Err c = λ next limits moment. found_by_err
    (tree_from c.args.nodes.now next limits moment) c.args.path.now c.in-Err.field-0
    c.in-Err.ensures
