-- A reply's frame is read back.
use Rattle.std.proofs.Common.{Some}
use Rattle.p9_client.proofs.Replies.{reply_found, reply_memory}
use Rattle.p9_client.proofs.exchange.reply_in.Goals as goal

pub unreachable-requires : goal.unreachable-requires
unreachable-requires c =
    reply_memory c.requires.tag c.requires.reply c.args.frame.now c.new-source.result.rest.now
    c.requires.spelled c.requires.spells c.requires.readable c.new-source.ensures
    (Some c.decode_body.new.source.rest.now) c.in-Err.fault c.in_default.not-NoMemory
    c.in-Err.ensures.decodes.answer

pub returns-in-Ok : goal.returns-in-Ok
returns-in-Ok c tag r is spells readable =
    reply_found tag r c.args.frame.now c.new-source.result.rest.now is spells readable
    c.new-source.ensures _ c.decode_body.new.source.rest.now c.in-Ok.ensures.decodes.answer.1
