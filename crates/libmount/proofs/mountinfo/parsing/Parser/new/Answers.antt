-- At first all items are left.
use Rattle.libmount.specs.Items.{lines_left}
use Rattle.libmount.specs.Slices.{placed}
use Rattle.libmount.proofs.ItemLemmas.{items-by}
use Rattle.libmount.proofs.mountinfo.parsing.Parser.new.Goals as goal

pub returns-clause-items : goal.returns-clause-items
returns-clause-items c = items-by (placed c.args.text) (lines_left c.new.result) c.new.ensures.lines
