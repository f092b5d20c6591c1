-- By what stands there.
use Rattle.tree_model.proofs.Sampling.{read_file, read_top, file_no_link, after_none, after_first}
use Rattle.tree_model.proofs.Sampling.{in_no_directory}
use Rattle.tree_model.proofs.examples.reading.Goals as goal

pub returns-clause-middle : goal.returns-clause-middle
returns-clause-middle c = read_file 1 3

pub returns-clause-end : goal.returns-clause-end
returns-clause-end c = read_file 4 8

pub returns-clause-beyond : goal.returns-clause-beyond
returns-clause-beyond c = read_file 9 8

pub returns-clause-directory : goal.returns-clause-directory
returns-clause-directory c = read_top 0 8

pub returns-clause-no_link : goal.returns-clause-no_link
returns-clause-no_link c = file_no_link

pub returns-clause-first : goal.returns-clause-first
returns-clause-first c = after_none

pub returns-clause-none_after : goal.returns-clause-none_after
returns-clause-none_after c = after_first

pub returns-clause-no_entries : goal.returns-clause-no_entries
returns-clause-no_entries c = in_no_directory
