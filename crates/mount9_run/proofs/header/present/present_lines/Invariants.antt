-- What was gathered, and the lines that are left.
use Rattle.std.proofs.Common.{◌≡◌, [], length}
use Rattle.mount9_run.specs.Reading.{gathered, lines_of}
use Rattle.mount9_run.specs.HeaderLines.{present_at}
use Rattle.mount9_run.proofs.header.present.present_lines.Given as goal

abbrev pub invariant-lines : goal.invariant-lines
invariant-lines l = gathered present_at [] l.initial.at.number (lines_of l.initial.at.rest.now)
    ≡ gathered present_at l.present l.at.number (lines_of l.at.rest.now)

abbrev pub decreases-lines : goal.decreases-lines
decreases-lines l = length l.at.rest.now
