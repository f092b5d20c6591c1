-- What is left: the linked records above the last one that was looked at.
use Rattle.std.proofs.Common.{length}
use Rattle.std.specs.FinMap as map
use Rattle.tree_model.specs.Tree.{linked}
use Rattle.tree_host.specs.TreeHosts.{tree}
use Rattle.mount9_run.specs.Report.{records_text}
use Rattle.mount9_run.specs.Wrote.{at_sink}
use Rattle.mount9_run.proofs.Sequences.{Writing}
use Rattle.mount9_run.proofs.WalkLemmas.{left_above, left_text}
use Rattle.mount9_run.proofs.report.walk.write_records.Given as goal

abbrev pub invariant-records : goal.invariant-records
invariant-records g l = Writing (at_sink (g.K.Sink.sent l.initial.out)
    (g.K.Sink.faults l.initial.out) (g.K.Sink.kept l.initial.out))
    (at_sink (g.K.Sink.sent l.out) (g.K.Sink.faults l.out) (g.K.Sink.kept l.out))
    (records_text (map.entries (linked (tree l.host)).records)) (left_text (tree l.host) l.at)

abbrev pub decreases-records : goal.decreases-records
decreases-records g l = length (left_above (tree l.host) l.at)
