-- At first all lines are left.
use Rattle.std.proofs.Common.{refl}
use Rattle.libmount.specs.Items.{lines}
use Rattle.libmount.proofs.mountinfo.lines.Lines.new.Goals as goal

pub returns-clause-lines : goal.returns-clause-lines
unfolding lines
returns-clause-lines c = refl
