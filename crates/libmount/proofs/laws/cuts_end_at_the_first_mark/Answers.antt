-- By cases on the text.
use Rattle.libmount.proofs.CutLaw.{cut-is}
use Rattle.libmount.proofs.laws.cuts_end_at_the_first_mark.Goals as goal

pub returns : goal.returns
returns c = cut-is
