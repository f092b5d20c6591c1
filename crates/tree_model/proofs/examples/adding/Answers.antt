-- By what stands in the top directory.
use Rattle.std.specs.Prelude.{codes}
use Rattle.tree_model.specs.Samples.{born, hello}
use Rattle.tree_model.specs.Placing.{directory_record, link_record}
use Rattle.tree_model.proofs.Sampling.{placed_in_top, placed_in_file, named_in_top, top_not_named}
use Rattle.tree_model.proofs.examples.adding.Goals as goal

pub returns-clause-directory : goal.returns-clause-directory
returns-clause-directory c = placed_in_top (codes "d") (directory_record born 493 0 0 1)

pub returns-clause-link : goal.returns-clause-link
returns-clause-link c = placed_in_top (codes "l") (link_record born 0 0 hello)

pub returns-clause-there : goal.returns-clause-there
returns-clause-there c = placed_in_top hello (directory_record born 493 0 0 1)

pub returns-clause-below_file : goal.returns-clause-below_file
returns-clause-below_file c = placed_in_file (codes "d") (directory_record born 493 0 0 2)

pub returns-clause-name : goal.returns-clause-name
returns-clause-name c = named_in_top (codes "b")

pub returns-clause-name_there : goal.returns-clause-name_there
returns-clause-name_there c = named_in_top hello

pub returns-clause-name_of_directory : goal.returns-clause-name_of_directory
returns-clause-name_of_directory c = top_not_named (codes "b")
