-- By what stands in the top directory.
use Rattle.tree_model.proofs.Sampling.{alone_goes, sample_stays, file_not_removed, none_removed}
use Rattle.tree_model.proofs.Sampling.{none_removed_below}
use Rattle.tree_model.proofs.examples.removing.Goals as goal

pub returns-clause-empty : goal.returns-clause-empty
returns-clause-empty c = alone_goes

pub returns-clause-filled : goal.returns-clause-filled
returns-clause-filled c = sample_stays

pub returns-clause-file : goal.returns-clause-file
returns-clause-file c = λ held. file_not_removed held

pub returns-clause-missing : goal.returns-clause-missing
returns-clause-missing c = λ held. none_removed held

pub returns-clause-below_file : goal.returns-clause-below_file
returns-clause-below_file c = λ held. none_removed_below held
