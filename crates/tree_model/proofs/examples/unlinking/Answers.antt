-- By what stands in the top directory.
use Rattle.tree_model.proofs.Sampling.{file_gone, none_gone, none_below, top_stays}
use Rattle.tree_model.proofs.examples.unlinking.Goals as goal

pub returns-clause-file : goal.returns-clause-file
returns-clause-file c = λ held. file_gone held

pub returns-clause-missing : goal.returns-clause-missing
returns-clause-missing c = λ held. none_gone held

pub returns-clause-below_file : goal.returns-clause-below_file
returns-clause-below_file c = λ held. none_below held

pub returns-clause-directory : goal.returns-clause-directory
returns-clause-directory c = top_stays
