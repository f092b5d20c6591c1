-- By what stands in the top directory.
use Rattle.std.specs.Prelude.{codes}
use Rattle.tree_model.specs.Samples.{born, sample, hello}
use Rattle.tree_model.specs.Attributes.{attr_of}
use Rattle.tree_model.specs.Creating.{with_new, empty_file, empty_directory}
use Rattle.tree_model.proofs.Sampling.{made_in_top, made_in_file, link_in_top, top_not_linked}
use Rattle.tree_model.proofs.examples.creating.Goals as goal

pub returns-clause-file : goal.returns-clause-file
returns-clause-file c = made_in_top 3 (codes "b")
    (with_new sample 1 (codes "b") (empty_file born 493))

pub returns-clause-there : goal.returns-clause-there
returns-clause-there c = made_in_top 3 hello (with_new sample 1 hello (empty_file born 420))

pub returns-clause-below_file : goal.returns-clause-below_file
returns-clause-below_file c = made_in_file 3 (codes "b")
    (with_new sample 2 (codes "b") (empty_file born 420))

pub returns-clause-directory : goal.returns-clause-directory
returns-clause-directory c = made_in_top (attr_of 3 (empty_directory born 493 1)) (codes "d")
    (with_new sample 1 (codes "d") (empty_directory born 493 1))

pub returns-clause-directory_there : goal.returns-clause-directory_there
returns-clause-directory_there c = made_in_top (attr_of 3 (empty_directory born 493 1)) hello
    (with_new sample 1 hello (empty_directory born 493 1))

pub returns-clause-name : goal.returns-clause-name
returns-clause-name c = link_in_top (codes "b")

pub returns-clause-name_there : goal.returns-clause-name_there
returns-clause-name_there c = link_in_top hello

pub returns-clause-name_of_directory : goal.returns-clause-name_of_directory
returns-clause-name_of_directory c = top_not_linked (codes "b")
