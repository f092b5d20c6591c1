-- The pairs so far were counted down.
use Rattle.std.specs.Prelude.{length}
use Rattle.fuse_gate.proofs.Batching.{Batching}
use Rattle.fuse_gate.proofs.gate.Gate.forget_all.Given as goal

abbrev pub invariant-loop-rest : goal.invariant-loop-rest
invariant-loop-rest g l = Batching l.fn.self (g.N.Nine.at l.fn.nine) l.self (g.N.Nine.at l.nine)
    l.pairs l.rest

abbrev pub decreases-loop-rest : goal.decreases-loop-rest
decreases-loop-rest g l = length l.rest
