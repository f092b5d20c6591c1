-- The room that was reserved is enough.
use Rattle.std.proofs.Common.{Result}
use Rattle.p9_wire.specs.Sending.{wire_fault}
use Rattle.p9_wire.specs.declared.error.WireError.{WireError}
use Rattle.p9_rmsg.specs.Replies.{reply_of}
use Rattle.p9_rmsg.specs.Frames.{reply_frame}
use Rattle.p9_server.specs.Answering.{IsSent}
use Rattle.p9_server.proofs.Sending.{failed_send}
use Rattle.p9_server.proofs.Showing.{passed_on}
use Rattle.p9_server.proofs.replies.send_reply.Goals as goal

pub returns-in_err-send_frame-clause-sent : goal.returns-in_err-send_frame-clause-sent
returns-in_err-send_frame-clause-sent g c =
    let w0 = c.args.writer.now in
    let w1 = c.send_frame.new.sink in
    let told = reply_of c.args.reply.now in
    let fault = c.in_err-send_frame.field-0.0 in
    passed_on (λ (r : Result (Unit {0}) WireError). IsSent (reply_frame c.args.tag told)
    (g.K.Sink.sent w0) (g.K.Sink.sent w1) (g.K.Sink.faults w0) (g.K.Sink.faults w1) r)
    c.from_residual.result (wire_fault fault) c.from_residual.ensures.1
    (failed_send c.args.tag told (g.K.Sink.sent w0) (g.K.Sink.sent w1) (g.K.Sink.room w0)
    (g.K.Sink.room w1) (g.K.Sink.faults w0) (g.K.Sink.faults w1) fault c.requires.room
    c.in_err-send_frame.ensures.sends)
