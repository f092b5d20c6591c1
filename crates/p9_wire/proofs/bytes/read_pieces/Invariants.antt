use Rattle.std.proofs.Common.{◌≡◌, ◌-◌, ◌≤◌, length}
use Rattle.p9_wire.proofs.Pieces.{Came}
use Rattle.p9_wire.proofs.bytes.read_pieces.Given as goal

abbrev pub invariant-loop-piece : goal.invariant-loop-piece
invariant-loop-piece g l = record {
  came : Came (g.S.Source.left l.fn.source) (g.S.Source.left l.source)
      (g.S.Source.faults l.fn.source) (g.S.Source.faults l.source) l.bytes.items;
  within : length l.bytes.items ≤ l.n;
  kept : g.S.Source.kept l.source ≡ g.S.Source.kept l.fn.source;
  lender : g.S.Source.lender l.source ≡ g.S.Source.lender l.fn.source;
}

abbrev pub decreases-loop-piece : goal.decreases-loop-piece
decreases-loop-piece g l = l.n - length l.bytes.items
