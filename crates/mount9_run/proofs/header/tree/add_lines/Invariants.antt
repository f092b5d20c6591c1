-- What was gathered, and the lines that are left.
use Rattle.std.proofs.Common.{◌≡◌, length}
use Rattle.tree_host.specs.TreeHosts.{tree}
use Rattle.mount9_run.specs.Reading.{gathered, lines_of}
use Rattle.mount9_run.specs.HeaderRecords.{record_at}
use Rattle.mount9_run.specs.HeaderViews.{ChangesTree}
use Rattle.mount9_run.proofs.header.tree.add_lines.Given as goal

abbrev pub invariant-lines : goal.invariant-lines
invariant-lines l = record {
  lines : gathered (record_at l.initial.host.born) (tree l.initial.host) l.initial.at.number
      (lines_of l.initial.at.rest.now) ≡ gathered (record_at l.host.born) (tree l.host) l.at.number
      (lines_of l.at.rest.now);
  rest : ChangesTree l.initial.host l.host;
}

abbrev pub decreases-lines : goal.decreases-lines
decreases-lines l = length l.at.rest.now
