-- The bytes that were missing and aren't any more stand in the buffer.
use Rattle.std.proofs.Common.{◌≡◌}
use Rattle.fuse_wire.proofs.Filling.{Filling}
use Rattle.fuse_wire.proofs.frames.fill.Given as goal

abbrev pub invariant-loop-rest : goal.invariant-loop-rest
invariant-loop-rest g l = record {
  filling : Filling (g.S.Source.left l.initial.source) (g.S.Source.left l.source)
      (g.S.Source.faults l.initial.source) (g.S.Source.faults l.source) l.initial.frame.items
      l.frame.items l.missing l.rest;
  kept : g.S.Source.kept l.source ≡ g.S.Source.kept l.initial.source;
  lender : g.S.Source.lender l.source ≡ g.S.Source.lender l.initial.source;
}

abbrev pub decreases-loop-rest : goal.decreases-loop-rest
decreases-loop-rest g l = l.rest
