-- By the error's number, message and row.
use Rattle.libmount.proofs.ByComputing.{parse_error_printed}
use Rattle.libmount.proofs.examples.texts_of_errors.Goals as goal

pub returns-clause-row : goal.returns-clause-row
returns-clause-row c = parse_error_printed
