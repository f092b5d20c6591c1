use Rattle.libmount.proofs.PartLemmas.{IsLast}
use Rattle.libmount.proofs.mountinfo.parts.last_mark.Given as goal

abbrev pub invariant-bytes : goal.invariant-bytes
invariant-bytes l = IsLast l.mark l.text l.at

abbrev pub decreases-bytes : goal.decreases-bytes
decreases-bytes l = l.at
