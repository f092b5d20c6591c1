-- The worked row is computed from the definition alone.
use Rattle.std.proofs.Common.{refl}
use Rattle.libmount.specs.Cuts.{cut}
use Rattle.libmount.specs.Escapes.{has_escape, decoded}
use Rattle.libmount.specs.Numbers.{digits_value, number_at, number_field, number_of}
use Rattle.libmount.specs.Reading.{field_at}
use Rattle.libmount.specs.Rows.{fields_of, optional_at, row, row_of, text_at}
use Rattle.libmount.proofs.laws.worked_row.Goals as goal

pub returns : goal.returns
unfolding cut has_escape decoded digits_value number_at number_field number_of field_at fields_of
    optional_at row row_of text_at
returns c = refl
