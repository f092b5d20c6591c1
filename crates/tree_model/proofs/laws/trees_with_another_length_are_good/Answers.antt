-- Files stay files, and are within the limit.
use Rattle.tree_model.specs.Attributing.{resized, rewritten_at, len_refused}
use Rattle.tree_model.proofs.Attributing.{call_good}
use Rattle.tree_model.proofs.Rewriting.{resized_good}
use Rattle.tree_model.proofs.laws.trees_with_another_length_are_good.Goals as goal

pub returns : goal.returns
returns c = λ t u ino len g is.
    call_good t g ino (len_refused t.limits.file len) (rewritten_at t.moment (resized len))
    (resized_good t g ino len) tt tt u is
