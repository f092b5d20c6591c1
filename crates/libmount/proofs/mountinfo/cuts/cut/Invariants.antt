use Rattle.libmount.proofs.CutLemmas.{Looked}
use Rattle.libmount.proofs.mountinfo.cuts.cut.Given as goal

abbrev pub invariant-loop-at : goal.invariant-loop-at
invariant-loop-at l = Looked l.mark l.bytes l.at
