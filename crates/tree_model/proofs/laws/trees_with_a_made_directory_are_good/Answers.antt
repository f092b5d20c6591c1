-- The lemma on a record more.
use Rattle.tree_model.specs.Attributes.{attr_of}
use Rattle.tree_model.specs.Making.{create_refused}
use Rattle.tree_model.specs.Creating.{with_new, empty_directory}
use Rattle.tree_model.proofs.Creating.{made_good, new_empty_directory, with_new_good}
use Rattle.tree_model.proofs.laws.trees_with_a_made_directory_are_good.Goals as goal

pub returns : goal.returns
returns c = λ t u dir name mode a g fine made.
    made_good (create_refused t dir name) (attr_of t.next (empty_directory t.moment mode dir)) a
    (with_new t dir name (empty_directory t.moment mode dir)) u made
    (λ free. with_new_good t g dir name (empty_directory t.moment mode dir)
    (new_empty_directory t.moment mode dir g.moment) free fine)
