use Rattle.std.proofs.Common.{◌-◌, length}
use Rattle.mount9_run.specs.Wrote.{at_sink}
use Rattle.mount9_run.proofs.Sequences.{Writing}
use Rattle.std.specs.Int.{div_ceil}
use Rattle.mount9_run.specs.ReportLines.{hex_lines, hex_rows}
use Rattle.mount9_run.proofs.report.writing.write_hex_lines.Given as goal

abbrev pub invariant-rows : goal.invariant-rows
invariant-rows g l = Writing (at_sink (g.K.Sink.sent l.initial.out) (g.K.Sink.faults l.initial.out)
    (g.K.Sink.kept l.initial.out)) (at_sink (g.K.Sink.sent l.out) (g.K.Sink.faults l.out)
    (g.K.Sink.kept l.out)) (hex_lines l.bytes)
    (hex_rows (div_ceil (length l.bytes) 32 - l.counter) l.rest)
