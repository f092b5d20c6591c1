-- The first part ends where the first mark stands.
use Rattle.std.proofs.Common.{sym}
use Rattle.libmount.proofs.PartLemmas.{first-none, first-some}
use Rattle.libmount.proofs.mountinfo.parts.first_part.Goals as goal

pub returns-in-Some-clause-parts : goal.returns-in-Some-clause-parts
returns-in-Some-clause-parts c = first-some c.args.mark c.args.text.now c.in-Some.at
    (sym c.in-Some.ensures)

pub returns-in-None-clause-parts : goal.returns-in-None-clause-parts
returns-in-None-clause-parts c = first-none c.args.mark c.args.text.now (sym c.in-None.ensures)
