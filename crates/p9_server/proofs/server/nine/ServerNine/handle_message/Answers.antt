-- A frame, its answer, and the reply.
use Rattle.p9_server.specs.Steps.{moment_of}
use Rattle.p9_server.proofs.Replying.{answered_sent, kept_twice}
use Rattle.std.proofs.Common.{◌∙◌}
use Rattle.p9_server.proofs.server.nine.ServerNine.handle_message.Goals as goal

pub returns-clause-handled : goal.returns-clause-handled
returns-clause-handled g c =
    let s = c.args.self.now in
    let n = c.answer.new.self in
    answered_sent (moment_of (g.H.Host.tree s.host) (g.H.Host.calls s.host) s.fids s.msize s.share
    s.asked) (moment_of (g.H.Host.tree n.host) (g.H.Host.calls n.host) n.fids n.msize n.share
    n.asked) c.saturating_add-self.result
    (g.S.Source.left c.args.reader.now) (g.S.Source.left c.read_frame.new.reader)
    (g.K.Sink.sent c.args.writer.now) (g.K.Sink.sent c.reserve_long.new.writer)
    (g.K.Sink.sent c.send_reply.new.writer)
    (g.S.Source.faults c.args.reader.now) (g.S.Source.faults c.read_frame.new.reader)
    (g.K.Sink.faults c.args.writer.now) (g.K.Sink.faults c.reserve_long.new.writer)
    (g.K.Sink.faults c.send_reply.new.writer)
    c.in_ok-frame.frame c.in_ok-frame.ensures.frame
    (kept_twice (g.K.Sink.sent c.args.writer.now) (g.K.Sink.sent c.make_room.new.writer)
    (g.K.Sink.sent c.reserve_long.new.writer) c.make_room.ensures.sent
    c.reserve_long.ensures.sent)
    (c.reserve_long.ensures.faults ∙ c.make_room.ensures.faults)
    c.in_ok-reply.reply c.in_ok-reply.ensures.answered c.send_reply.result
    c.send_reply.ensures.sent
