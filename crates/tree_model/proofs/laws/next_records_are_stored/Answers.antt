-- The lemma on the next record.
use Rattle.tree_model.proofs.Reading.{record_after-stat}
use Rattle.tree_model.proofs.laws.next_records_are_stored.Goals as goal

pub returns : goal.returns
returns c = λ t i a is. record_after-stat t i a is
