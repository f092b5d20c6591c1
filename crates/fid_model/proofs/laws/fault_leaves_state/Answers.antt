use Rattle.fid_model.proofs.Parts.{fault_leaves_state}
use Rattle.fid_model.proofs.laws.fault_leaves_state.Goals as goal

pub returns : goal.returns
returns c = fault_leaves_state
