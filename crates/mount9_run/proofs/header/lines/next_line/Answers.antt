-- The next line is the first of the lines.
use Rattle.std.proofs.Common.{sym, refl}
use Rattle.mount9_run.proofs.LineLemmas.{lines_of-some, lines_of-none}
use Rattle.mount9_run.proofs.header.lines.next_line.Goals as goal

pub returns-in-Some-clause-value : goal.returns-in-Some-clause-value
returns-in-Some-clause-value c = rw (lines_of-some _ _ _ (sym c.in-Some.ensures.value)) refl

pub returns-in-None-clause-value : goal.returns-in-None-clause-value
returns-in-None-clause-value c = rw (lines_of-none _ (sym c.in-None.ensures.value)) refl
