-- Name by name.
use Rattle.tree_model.proofs.Sampling.{found_file, found_none, found_below}
use Rattle.tree_model.proofs.examples.finding.Goals as goal

pub returns-clause-file : goal.returns-clause-file
returns-clause-file c = found_file

pub returns-clause-missing : goal.returns-clause-missing
returns-clause-missing c = found_none

pub returns-clause-below : goal.returns-clause-below
returns-clause-below c = found_below
