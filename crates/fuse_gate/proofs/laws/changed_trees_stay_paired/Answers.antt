use Rattle.fuse_gate.proofs.Changing.{tree_paired}
use Rattle.fuse_gate.proofs.laws.changed_trees_stay_paired.Goals as goal

pub returns : goal.returns
returns c g s u st kinds = tree_paired g s u st kinds
