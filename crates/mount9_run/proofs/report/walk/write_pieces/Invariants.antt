-- What is left: the bytes from the offset on.
use Rattle.std.proofs.Common.{◌-◌, ◌≤◌, length, drop}
use Rattle.hex.specs.Hex.{encode_lower}
use Rattle.tree_model.specs.Reading.{bytes_at}
use Rattle.tree_host.specs.TreeHosts.{tree}
use Rattle.mount9_run.specs.Wrote.{at_sink}
use Rattle.mount9_run.proofs.Sequences.{Writing}
use Rattle.mount9_run.proofs.report.walk.write_pieces.Given as goal

abbrev pub invariant-pieces : goal.invariant-pieces
invariant-pieces g l = record {
  writing : Writing (at_sink (g.K.Sink.sent l.initial.out) (g.K.Sink.faults l.initial.out)
      (g.K.Sink.kept l.initial.out)) (at_sink (g.K.Sink.sent l.out) (g.K.Sink.faults l.out)
      (g.K.Sink.kept l.out)) (encode_lower (bytes_at (tree l.host) l.ino))
      (encode_lower (drop l.offset (bytes_at (tree l.host) l.ino)));
  within : l.offset ≤ length (bytes_at (tree l.host) l.ino);
}

abbrev pub decreases-pieces : goal.decreases-pieces
decreases-pieces g l = length (bytes_at (tree l.host) l.ino) - l.offset
