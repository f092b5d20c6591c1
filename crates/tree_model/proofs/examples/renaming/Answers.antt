-- By what stands in the top directory.
use Rattle.tree_model.specs.Samples.{hello}
use Rattle.tree_model.proofs.Sampling.{top_below_itself, file_not_above, file_elsewhere, into_file}
use Rattle.tree_model.proofs.Sampling.{none_moves, file_stays, file_moves}
use Rattle.tree_model.proofs.examples.renaming.Goals as goal

pub returns-clause-file : goal.returns-clause-file
returns-clause-file c = λ held. file_moves held

pub returns-clause-same : goal.returns-clause-same
returns-clause-same c = λ held. file_stays held

pub returns-clause-missing : goal.returns-clause-missing
returns-clause-missing c = λ held. none_moves held

pub returns-clause-from_file : goal.returns-clause-from_file
returns-clause-from_file c = λ held. file_elsewhere held hello

pub returns-clause-into_file : goal.returns-clause-into_file
returns-clause-into_file c = λ held. into_file held

pub returns-clause-into_itself : goal.returns-clause-into_itself
returns-clause-into_itself c = top_below_itself

pub returns-clause-file_is_nowhere : goal.returns-clause-file_is_nowhere
returns-clause-file_is_nowhere c = file_not_above
