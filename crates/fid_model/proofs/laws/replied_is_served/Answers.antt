use Rattle.fid_model.proofs.Replies.{Replied-served}
use Rattle.fid_model.proofs.laws.replied_is_served.Goals as goal

pub returns : goal.returns
returns c = Replied-served
