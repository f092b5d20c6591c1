-- By computing.
use Rattle.port_base.proofs.ByComputing.{name_slash, name_zero, name_dot, name_dots}
use Rattle.port_base.proofs.examples.names_that_are_misspelled.Goals as goal

pub returns-clause-slash : goal.returns-clause-slash
returns-clause-slash c = name_slash

pub returns-clause-zero : goal.returns-clause-zero
returns-clause-zero c = name_zero

pub returns-clause-dot : goal.returns-clause-dot
returns-clause-dot c = name_dot

pub returns-clause-dots : goal.returns-clause-dots
returns-clause-dots c = name_dots
