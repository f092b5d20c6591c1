-- A call that tells something leaves gate and server in step.
use Rattle.fuse_wire.specs.Answers.{rest_of}
use Rattle.fuse_gate.proofs.Desks.{told_ready}
use Rattle.fuse_gate.proofs.gate.desk.DeskAsyncFilesystem.read.Goals as goal

pub returns-then-is_err-clause-ready : goal.returns-then-is_err-clause-ready
returns-then-is_err-clause-ready g c =
    told_ready (rest_of c.args.out_bytes.now.items c.read-told.new.out.items) c.read-told.result _ _
    (λ reply served. served.stands) c.read-told.ensures.served

pub returns-else-is_err-clause-ready : goal.returns-else-is_err-clause-ready
returns-else-is_err-clause-ready g c =
    told_ready (rest_of c.args.out_bytes.now.items c.read-told.new.out.items) c.read-told.result _ _
    (λ reply served. served.stands) c.read-told.ensures.served
