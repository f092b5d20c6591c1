-- Digit by digit.
use Rattle.libmount.proofs.DecimalLaw.{number_of-decimal, number_of-plus}
use Rattle.libmount.proofs.laws.decimal_texts_are_numbers.Goals as goal

pub returns-clause-plain : goal.returns-clause-plain
returns-clause-plain c = number_of-decimal

pub returns-clause-plus : goal.returns-clause-plus
returns-clause-plus c = number_of-plus
