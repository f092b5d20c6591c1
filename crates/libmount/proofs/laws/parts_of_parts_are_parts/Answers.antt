-- Places add up.
use Rattle.libmount.proofs.SliceLemmas.{ItemLiesInRest-trans, LiesIn-trans, StaysIn-trans}
use Rattle.libmount.proofs.laws.parts_of_parts_are_parts.Goals as goal

pub returns-clause-part : goal.returns-clause-part
returns-clause-part c = LiesIn-trans

pub returns-clause-rest : goal.returns-clause-rest
returns-clause-rest c = StaysIn-trans

pub returns-clause-item : goal.returns-clause-item
returns-clause-item c = ItemLiesInRest-trans
