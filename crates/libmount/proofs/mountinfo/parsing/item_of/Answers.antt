-- A line that isn't passed over gives its fields or its refusal.
use Rattle.libmount.specs.Slices.{placed}
use Rattle.libmount.proofs.ItemLemmas.{item-err, item-none, item-some}
use Rattle.libmount.proofs.mountinfo.parsing.item_of.Goals as goal

pub returns-in-Some-clause-value : goal.returns-in-Some-clause-value
returns-in-Some-clause-value c = item-some c.args.number (placed c.args.line) _
    (rw c.in-Some.is at c.in-Ok.ensures.value)

pub returns-in-None-clause-value : goal.returns-in-None-clause-value
returns-in-None-clause-value c = item-none c.args.number (placed c.args.line)
    (rw c.in-None.is at c.in-Ok.ensures.value)

pub returns-in-Err-clause-value : goal.returns-in-Err-clause-value
returns-in-Err-clause-value c = item-err c.args.number (placed c.args.line) c.in-Err.fault
    c.refused.result c.in-Err.ensures.value c.refused.ensures
