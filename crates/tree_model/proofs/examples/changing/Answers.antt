-- By what stands there.
use Rattle.std.specs.Prelude.{codes}
use Rattle.tree_model.specs.declared.attributes.TimeSet.TheVariants.{Keep, Now, At}
use Rattle.tree_model.proofs.Sampling.{too_long, no_file, write_file, write_top, write_none}
use Rattle.tree_model.proofs.Sampling.{time_file}
use Rattle.tree_model.proofs.examples.changing.Goals as goal

pub returns-clause-long : goal.returns-clause-long
returns-clause-long c = too_long

pub returns-clause-directory : goal.returns-clause-directory
returns-clause-directory c = no_file

pub returns-clause-beyond : goal.returns-clause-beyond
returns-clause-beyond c = write_file 8 (codes "z")

pub returns-clause-nothing : goal.returns-clause-nothing
returns-clause-nothing c = write_none

pub returns-clause-over_file : goal.returns-clause-over_file
returns-clause-over_file c = write_file 6 (codes "xyz")

pub returns-clause-onto_directory : goal.returns-clause-onto_directory
returns-clause-onto_directory c = write_top 0 (codes "z")

pub returns-clause-times : goal.returns-clause-times
returns-clause-times c = time_file Keep Now

pub returns-clause-late : goal.returns-clause-late
returns-clause-late c = time_file Keep (At (record { sec = 0; nsec = 1000000000 }))
