-- The refusal, or the attributes of the fid.
use Rattle.std.proofs.Common.{Ok, Err}
use Rattle.fuse_wire.specs.Request.{getattr}
use Rattle.fuse_gate.proofs.Asking.{fid_tells, tells_as}
use Rattle.fuse_gate.proofs.Serving.{refused_before}
use Rattle.fuse_gate.proofs.Attributes.{getattr_served}
use Rattle.fuse_gate.proofs.gate.Gate.getattr.Goals as goal

pub returns-in-Err-clause-served : goal.returns-in-Err-clause-served
returns-in-Err-clause-served g c = refused_before c.requires (g.met.N.Nine.good c.args.nine.now)
    c.args.node (getattr c.args.handle) _ c.in-Err.ensures

pub returns-in-Ok-2-clause-served : goal.returns-in-Ok-2-clause-served
returns-in-Ok-2-clause-served g c =
    let k = c.in-Ok.ensures in
    rw c.new.ensures.attributes (getattr_served (g.N.Nine.at c.args.nine.now) c.requires (g.met.N.Nine.good c.args.nine.now)
    c.args.node c.args.handle k.0 k.1.0 k.1.2 _ (g.N.Nine.at c.show.new.nine)
    (Ok c.in-Ok-2.attr) c.in_ok-attr.ensures.counted c.in_ok-attr.ensures.answer.asked
    c.in_ok-attr.ensures.kept.rises
    (tells_as _ _ _ (g.N.Nine.at c.args.nine.now) (g.N.Nine.at c.show.new.nine) c.in-Ok-2.is
    (fid_tells c.in_ok-attr.ensures.answer k.1.0 k.1.1)))

pub returns-in-Err-2-clause-served : goal.returns-in-Err-2-clause-served
returns-in-Err-2-clause-served g c =
    let k = c.in-Ok.ensures in
    getattr_served (g.N.Nine.at c.args.nine.now) c.requires (g.met.N.Nine.good c.args.nine.now)
    c.args.node c.args.handle k.0 k.1.0 k.1.2 _ (g.N.Nine.at c.show.new.nine)
    (Err c.in-Err-2.errno) c.in_ok-attr.ensures.counted c.in_ok-attr.ensures.answer.asked
    c.in_ok-attr.ensures.kept.rises
    (tells_as _ _ _ (g.N.Nine.at c.args.nine.now) (g.N.Nine.at c.show.new.nine) c.in-Err-2.is
    (fid_tells c.in_ok-attr.ensures.answer k.1.0 k.1.1))
