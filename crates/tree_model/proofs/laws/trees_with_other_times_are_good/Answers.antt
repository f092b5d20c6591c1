-- Bodies and links stay, and given times are good.
use Rattle.tree_model.specs.Attributing.{times_refused, retimed}
use Rattle.tree_model.proofs.Attributing.{call_good, retimed_good}
use Rattle.tree_model.proofs.laws.trees_with_other_times_are_good.Goals as goal

pub returns : goal.returns
returns c = λ t u ino atime mtime g is.
    call_good t g ino (times_refused atime mtime) (retimed atime mtime t.moment)
    (retimed_good t g ino atime mtime) tt tt u is
