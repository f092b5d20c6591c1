-- So far full pieces were read, each by one message.
use Rattle.std.proofs.Common.{◌≡◌, ◌-◌, ◌++◌}
use Rattle.fuse_wire.specs.Answers.{rest_of}
use Rattle.fuse_gate.specs.Files.{file_at}
use Rattle.fuse_gate.proofs.Reading.{Reading}
use Rattle.fuse_gate.proofs.gate.Gate.read_pieces.Given as goal

abbrev pub invariant-pieces : goal.invariant-pieces
invariant-pieces g l = record {
  reading : Reading (file_at (g.N.Nine.at l.initial.nine).state l.fid) l.offset l.size
      l.initial.self (g.N.Nine.at l.initial.nine) l.self (g.N.Nine.at l.nine)
      (rest_of l.initial.out.items l.out.items);
  behind : l.out.items ≡ l.initial.out.items ++ rest_of l.initial.out.items l.out.items;
  before : l.before ≡ l.initial.out.len;
}

abbrev pub decreases-pieces : goal.decreases-pieces
decreases-pieces g l = l.size - (l.out.len - l.before)
