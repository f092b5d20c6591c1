-- A line has a say where its row has the path or is refused.
use Rattle.libmount.proofs.LookupLemmas.{verdict-err, verdict-none, verdict-some}
use Rattle.libmount.specs.Slices.{placed}
use Rattle.libmount.specs.Views.{row_view}
use Rattle.libmount.proofs.remount.verdict.Goals as goal

pub returns-in-Some : goal.returns-in-Some
returns-in-Some c = verdict-some c.args.path.now (placed c.args.line) (row_view c.in-Some.mount)
    c.flags_at.result (rw c.in-Some.is at c.in-Ok.ensures.value) c.flags_at.ensures

pub returns-in-None : goal.returns-in-None
returns-in-None c = verdict-none c.args.path.now (placed c.args.line)
    (rw c.in-None.is at c.in-Ok.ensures.value)

pub returns-in-Row : goal.returns-in-Row
returns-in-Row c = verdict-err c.args.path.now (placed c.args.line) c.in-Row.error.0.items
    (rw c.in-Row.is at c.in-Err.ensures.value)
