-- The fids are taken away, and then the answer to the attach decides.
use Rattle.std.proofs.Common.{ap}
use Rattle.p9_wire.specs.Qids.{qid_of}
use Rattle.p9_client.specs.Views.{qid_answer}
use Rattle.fuse_gate.proofs.Asking.{answered_tells}
use Rattle.fuse_gate.proofs.Attachings.{attach_made, attach_refused, attach_unfinished}
use Rattle.fuse_gate.proofs.Attachings.{attach_wanting}
use Rattle.fuse_gate.proofs.gate.Gate.new.Goals as goal

pub returns-in-Err-clause-attached : goal.returns-in-Err-clause-attached
returns-in-Err-clause-attached g c =
    attach_unfinished (g.N.Nine.at c.args.nine.now) (g.N.Nine.at c.clear_fids.new.self)
    (g.N.Nine.at c.attach.new.nine) c.clear_fids.ensures.state
    (g.met.N.Nine.good c.args.nine.now) (g.N.Nine.at c.clear_fids-in-Err.new.self)
    c.clear_fids-in-Err.ensures.state c.in-Err.ensures.unfinished

pub returns-in-Ok-gate_at-clause-attached : goal.returns-in-Ok-gate_at-clause-attached
returns-in-Ok-gate_at-clause-attached g c =
    attach_made (g.N.Nine.at c.args.nine.now) (g.N.Nine.at c.clear_fids.new.self)
    (g.N.Nine.at c.attach.new.nine) c.clear_fids.ensures.state
    (g.met.N.Nine.good c.clear_fids.new.self) c.requires
    (qid_answer c.in-Ok.attached) c.in-Ok-attached.root c.in-Ok-gate_at.gate
    (ap qid_answer c.in-Ok-attached.is) c.clear_fids.ensures.asked
    (answered_tells c.in-Ok.ensures.answer) c.in-Ok.ensures.answer.asked c.in-Ok-gate_at.ensures

pub returns-in-Err-gate_at-clause-attached : goal.returns-in-Err-gate_at-clause-attached
returns-in-Err-gate_at-clause-attached g c =
    attach_wanting (g.N.Nine.at c.args.nine.now) (g.N.Nine.at c.clear_fids.new.self)
    (g.N.Nine.at c.attach.new.nine) c.clear_fids.ensures.state
    (g.met.N.Nine.good c.args.nine.now) (g.N.Nine.at c.clear_fids-in-Err-gate_at.new.self)
    c.clear_fids-in-Err-gate_at.ensures.state
    (qid_answer c.in-Ok.attached) (qid_of c.in-Ok-attached.root) (ap qid_answer c.in-Ok-attached.is)
    (answered_tells c.in-Ok.ensures.answer)

pub returns-in-Err-attached-clause-attached : goal.returns-in-Err-attached-clause-attached
returns-in-Err-attached-clause-attached g c =
    attach_refused (g.N.Nine.at c.args.nine.now) (g.N.Nine.at c.clear_fids.new.self)
    (g.N.Nine.at c.attach.new.nine) c.clear_fids.ensures.state
    c.in-Err-attached.errno c.refusal.result c.fid_limit.result c.clear_fids.ensures.faults
    c.clear_fids.ensures.asked c.in-Ok.ensures.answer.asked c.in-Ok.ensures.kept.fixed
    c.fid_limit.ensures c.refusal.ensures
    (qid_answer c.in-Ok.attached) (ap qid_answer c.in-Err-attached.is)
    (answered_tells c.in-Ok.ensures.answer)
