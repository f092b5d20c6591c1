-- The bytes of the reply stand behind what was there.
use Rattle.std.proofs.Common.{refl}
use Rattle.fuse_gate.specs.Replies.{reply_of}
use Rattle.fuse_gate.proofs.Replying.{served_short}
use Rattle.fuse_gate.proofs.Stepping.{frame_long, answers_spoken, answers_silent}
use Rattle.fuse_gate.proofs.gate.Gate.step.Goals as goal

pub read-head-requires : goal.read-head-requires
read-head-requires g c = frame_long c.args.frame.now c.requires.frame

pub serve_frame-requires-clause-long : goal.serve_frame-requires-clause-long
serve_frame-requires-clause-long g c = frame_long c.args.frame.now c.requires.frame

pub size-requires : goal.size-requires
size-requires g c = served_short c.args.frame.now _ _ _ c.requires.stands
    c.in_ok-answer.ensures.served

pub write_reply-requires-clause-short : goal.write_reply-requires-clause-short
write_reply-requires-clause-short g c = served_short c.args.frame.now _ _ _ c.requires.stands
    c.in_ok-answer.ensures.served

pub returns-then-is_silent-clause-ok : goal.returns-then-is_silent-clause-ok
returns-then-is_silent-clause-ok g c =
    answers_silent c.args.frame.now c.read-head.result
    (c.args.self.now, g.N.Nine.at c.args.nine.now)
    (c.serve_frame.new.self, g.N.Nine.at c.serve_frame.new.nine)
    (reply_of c.in_ok-answer.answer) c.args.reply.now.items c.args.reply.now.items
    c.args.reply.now.items
    c.read-head.ensures refl c.in_ok-answer.ensures.kept c.in_ok-answer.ensures.served
    c.if-is_silent.ensures refl

pub returns-clause-ok : goal.returns-clause-ok
returns-clause-ok g c =
    answers_spoken c.args.frame.now c.read-head.result
    (c.args.self.now, g.N.Nine.at c.args.nine.now)
    (c.serve_frame.new.self, g.N.Nine.at c.serve_frame.new.nine)
    (reply_of c.in_ok-answer.answer) c.args.reply.now.items c.reserve.new.self.items
    c.write_reply.new.out.items
    c.read-head.ensures c.reserve.ensures.items c.in_ok-answer.ensures.kept
    c.in_ok-answer.ensures.served c.if-is_silent.ensures c.write_reply.ensures
