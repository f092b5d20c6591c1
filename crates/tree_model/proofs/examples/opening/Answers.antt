-- By the kind of what stands there.
use Rattle.tree_model.proofs.Sampling.{open_file, open_top}
use Rattle.tree_model.proofs.examples.opening.Goals as goal

pub returns-clause-to_read : goal.returns-clause-to_read
returns-clause-to_read c = open_file 0

pub returns-clause-to_cut : goal.returns-clause-to_cut
returns-clause-to_cut c = open_file 513

pub returns-clause-no_access : goal.returns-clause-no_access
returns-clause-no_access c = open_file 3

pub returns-clause-exclusive : goal.returns-clause-exclusive
returns-clause-exclusive c = open_file 192

pub returns-clause-no_directory : goal.returns-clause-no_directory
returns-clause-no_directory c = open_file 65536

pub returns-clause-directory : goal.returns-clause-directory
returns-clause-directory c = open_top 65536

pub returns-clause-written : goal.returns-clause-written
returns-clause-written c = open_top 1

pub returns-clause-created : goal.returns-clause-created
returns-clause-created c = open_top 64
