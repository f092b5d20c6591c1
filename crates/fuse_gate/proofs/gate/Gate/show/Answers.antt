-- What the server tells of an inode has room in FUSE's fields.
use Rattle.std.proofs.Common.{ap}
use Rattle.p9_rmsg.specs.Replies.{attributes_of}
use Rattle.p9_client.specs.Views.{attributes_answer}
use Rattle.fuse_gate.proofs.Asking.{fid_tells}
use Rattle.fuse_gate.proofs.Showing.{short_fields}
use Rattle.fuse_gate.proofs.gate.Gate.show.Goals as goal

pub file_attr-requires : goal.file_attr-requires
file_attr-requires g c =
    short_fields (g.N.Nine.at c.args.nine.now) (g.N.Nine.at c.get_attr.new.nine)
    (g.met.N.Nine.good c.args.nine.now) c.args.fid (attributes_answer c.in_ok-told.told)
    (attributes_of c.in-Ok.attr) c.requires.known (ap attributes_answer c.in-Ok.is)
    (fid_tells c.in_ok-told.ensures.answer)
