-- A run without a step that met a fault is the machine's.
use Rattle.std.proofs.Common.{refl}
use Rattle.tree_machine.proofs.Hurting.{Hurt-zero}
use Rattle.tree_machine.proofs.laws.unhurt_runs_are_plays.Goals as goal

pub returns : goal.returns
returns c s m last frames replies h = Hurt-zero s m last frames 0 replies refl h
