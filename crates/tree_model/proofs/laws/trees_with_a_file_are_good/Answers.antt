-- The lemma on added files.
use Rattle.tree_model.specs.Tree.{body_at, is_linked}
use Rattle.tree_model.specs.Making.{add_refused, new_name_refused}
use Rattle.tree_model.proofs.Files.{added_file_good}
use Rattle.std.proofs.Common.{refl}
use Rattle.tree_model.proofs.laws.trees_with_a_file_are_good.Goals as goal

pub returns : goal.returns
returns c = λ t born dir name f ino u g stamp fine mode made. added_file_good t g born dir name f
    stamp fine mode (add_refused (new_name_refused (is_linked t.records dir) t.limits.entries t.next
    name (body_at t.records dir)) t.limits.file f) refl ino u made
