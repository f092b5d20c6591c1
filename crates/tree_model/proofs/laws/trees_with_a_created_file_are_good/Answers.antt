-- The lemma on a record more.
use Rattle.tree_model.specs.Making.{create_refused}
use Rattle.tree_model.specs.Creating.{with_new, empty_file}
use Rattle.tree_model.proofs.Creating.{made_good, new_file, with_new_good}
use Rattle.tree_model.proofs.laws.trees_with_a_created_file_are_good.Goals as goal

pub returns : goal.returns
returns c = λ t u dir name mode ino g fine made.
    made_good (create_refused t dir name) t.next ino
    (with_new t dir name (empty_file t.moment mode)) u made
    (λ free. with_new_good t g dir name (empty_file t.moment mode)
    (new_file t.moment mode dir g.moment) free fine)
