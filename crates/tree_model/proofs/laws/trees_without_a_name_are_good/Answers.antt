-- The lemma on entries that go.
use Rattle.tree_model.specs.Finding.{lookup_of}
use Rattle.tree_model.specs.Unlinking.{unless_directory}
use Rattle.tree_model.proofs.Leaving.{file_only, removed_good}
use Rattle.tree_model.proofs.laws.trees_without_a_name_are_good.Goals as goal

pub returns : goal.returns
returns c = λ held t u dir name g made. removed_good held t u g dir name
    (unless_directory t.records (lookup_of t dir name)) (file_only t.records (lookup_of t dir name))
    made
