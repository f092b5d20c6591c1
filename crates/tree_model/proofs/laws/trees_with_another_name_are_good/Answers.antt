-- The lemma on names that move.
use Rattle.tree_model.proofs.Renaming.{renamed_good}
use Rattle.tree_model.proofs.laws.trees_with_another_name_are_good.Goals as goal

pub returns : goal.returns
returns c = λ held t u olddir newdir oldname newname g fine made. renamed_good held t g olddir
    oldname newdir newname fine u made
