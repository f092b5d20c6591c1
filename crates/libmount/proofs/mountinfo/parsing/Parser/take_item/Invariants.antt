use Rattle.std.proofs.Common.{◌≡◌, length}
use Rattle.libmount.specs.Items.{lines_left}
use Rattle.libmount.specs.Parsers.{items_left, text_left}
use Rattle.libmount.specs.Slices.{StaysIn}
use Rattle.libmount.proofs.mountinfo.parsing.Parser.take_item.Given as goal

abbrev pub invariant-lines : goal.invariant-lines
invariant-lines l = record {
  items : items_left l.fn.self ≡ items_left l.self;
  text : StaysIn
      (text_left l.fn.self) (text_left l.self);
}

abbrev pub decreases-lines : goal.decreases-lines
decreases-lines l = length (lines_left l.self.lines)
