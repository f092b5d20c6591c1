-- What is left: the entries above the last one that was written.
use Rattle.std.proofs.Common.{length}
use Rattle.tree_host.specs.TreeHosts.{tree}
use Rattle.mount9_run.specs.Report.{entries_text}
use Rattle.mount9_run.specs.Walking.{entries_in}
use Rattle.mount9_run.proofs.Rising.{above}
use Rattle.mount9_run.specs.Wrote.{at_sink}
use Rattle.mount9_run.proofs.Sequences.{Writing}
use Rattle.mount9_run.proofs.WalkLemmas.{cookie}
use Rattle.mount9_run.proofs.report.walk.write_entries.Given as goal

abbrev pub invariant-entries : goal.invariant-entries
invariant-entries g l = Writing (at_sink (g.K.Sink.sent l.initial.out)
    (g.K.Sink.faults l.initial.out) (g.K.Sink.kept l.initial.out))
    (at_sink (g.K.Sink.sent l.out) (g.K.Sink.faults l.out) (g.K.Sink.kept l.out))
    (entries_text l.dir (entries_in (tree l.host) l.dir))
    (entries_text l.dir (above cookie l.at (entries_in (tree l.host) l.dir)))

abbrev pub decreases-entries : goal.decreases-entries
decreases-entries g l = length (above cookie l.at (entries_in (tree l.host) l.dir))
