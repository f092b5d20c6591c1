-- The bytes so far, and what the source keeps.
use Rattle.std.proofs.Common.{◌≡◌}
use Rattle.mount9_run.proofs.Taking.{Taking}
use Rattle.mount9_run.proofs.header.text.take_text.Given as goal

abbrev pub invariant-bytes : goal.invariant-bytes
invariant-bytes g l = record {
  takes : Taking (g.S.Source.left l.initial.source) (g.S.Source.left l.source)
      (g.S.Source.faults l.initial.source) (g.S.Source.faults l.source) l.text.items l.start
      l.counter;
  kept : g.S.Source.kept l.source ≡ g.S.Source.kept l.initial.source;
  lender : g.S.Source.lender l.source ≡ g.S.Source.lender l.initial.source;
}
