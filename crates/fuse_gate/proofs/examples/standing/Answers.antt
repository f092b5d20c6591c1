-- By what the gate's tables have.
use Rattle.fuse_gate.proofs.Sampling.{node_shown, handle_shown, node_counted, node_missing}
use Rattle.fuse_gate.proofs.examples.standing.Goals as goal

pub returns-clause-node : goal.returns-clause-node
returns-clause-node c = node_shown

pub returns-clause-handle : goal.returns-clause-handle
returns-clause-handle c = handle_shown

pub returns-clause-counted : goal.returns-clause-counted
returns-clause-counted c = node_counted

pub returns-clause-not_there : goal.returns-clause-not_there
returns-clause-not_there c = node_missing
