-- So far full pieces were written, each by one message.
use Rattle.std.proofs.Common.{◌-◌, length}
use Rattle.fuse_gate.proofs.WritingPieces.{Writing}
use Rattle.fuse_gate.proofs.gate.Gate.write_pieces.Given as goal

abbrev pub invariant-pieces : goal.invariant-pieces
invariant-pieces g l = Writing l.initial.self (g.N.Nine.at l.initial.nine) l.fid l.offset
    l.bytes l.self (g.N.Nine.at l.nine) l.written

abbrev pub decreases-pieces : goal.decreases-pieces
decreases-pieces g l = length l.bytes - l.written
