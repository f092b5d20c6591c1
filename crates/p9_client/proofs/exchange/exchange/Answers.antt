-- The reply that was read is the one that the server gave.
use Rattle.std.proofs.Common.{◌∙◌}
use Rattle.p9_tmsg.specs.Messages.{message_of}
use Rattle.p9_client.proofs.Replies.{exchanged}
use Rattle.p9_client.proofs.exchange.exchange.Goals as goal

pub returns-clause-outcome : goal.returns-clause-outcome
returns-clause-outcome g c =
    let w = c.in_ok-reply.ensures.reply (message_of c.args.message.now)
    (record { spelled = c.as_bytes.ensures ∙ c.in_ok-request.ensures; askable = c.requires }) in
    exchanged c.reply_in.result _ _ _ _ w (c.reply_in.ensures w.tag w.reply
    (c.as_bytes-2.ensures ∙ w.spelled) w.spells w.readable) c.in_ok-reply.ensures.asked

pub returns-clause-kept : goal.returns-clause-kept
returns-clause-kept g c = c.in_ok-reply.ensures.kept (message_of c.args.message.now)
    (record { spelled = c.as_bytes.ensures ∙ c.in_ok-request.ensures; askable = c.requires })

pub returns-in_err-reply-clause-kept : goal.returns-in_err-reply-clause-kept
returns-in_err-reply-clause-kept g c = c.in_err-reply.ensures.kept (message_of c.args.message.now)
    (record { spelled = c.as_bytes.ensures ∙ c.in_ok-request.ensures; askable = c.requires })
