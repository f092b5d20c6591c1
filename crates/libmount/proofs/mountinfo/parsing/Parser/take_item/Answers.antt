-- The lines that are passed over leave the items as they are, and each line lies in the text.
use Rattle.libmount.proofs.ItemLemmas.{skips-line}
use Rattle.libmount.proofs.SliceLemmas.{Item-trans, StaysIn-trans}
use Rattle.libmount.proofs.mountinfo.parsing.Parser.take_item.Goals as goal

pub returns-in-Some-item_of-clause-part : goal.returns-in-Some-item_of-clause-part
returns-in-Some-item_of-clause-part c =
    Item-trans _ _ c.in-Some.line c.in-Some-item_of.item c.lines.invariant.text
    c.in-Some.ensures.steps.part c.in-Some-item_of.ensures.parts

pub returns-in-Some-item_of-clause-text : goal.returns-in-Some-item_of-clause-text
returns-in-Some-item_of-clause-text c = StaysIn-trans _ _ _ c.lines.invariant.text
    c.next.ensures.steps.rest

pub lines-preserved : goal.lines-preserved
lines-preserved c = record {
  items = skips-line _ _ _ _ c.lines.invariant.items c.in-Some.ensures.steps.gives
      c.in-None.ensures.value;
  text = StaysIn-trans _ _ _ c.lines.invariant.text c.next.ensures.steps.rest;
}

pub returns-clause-text : goal.returns-clause-text
returns-clause-text c = StaysIn-trans _ _ _ c.lines.invariant.text c.next.ensures.steps.rest
