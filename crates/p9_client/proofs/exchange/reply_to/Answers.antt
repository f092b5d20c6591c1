-- What a server answers to a frame that spells a message, and what it keeps.
use Rattle.std.proofs.Common.{◌∙◌, Ok, Err}
use Rattle.p9_client.proofs.Replies.{replied, left_by, kept_by}
use Rattle.p9_client.proofs.exchange.reply_to.Goals as goal

pub returns-clause-reply : goal.returns-clause-reply
returns-clause-reply g c m request =
    let h = c.in-Ok.ensures.handled.answer.1 in
    replied (g.N.Nine.at c.args.nine.now) (g.N.Nine.at c.handle_message.new.self)
    (g.met.N.Nine.good c.args.nine.now) m c.new-reader.result.rest.now
    c.handle_message.new.reader.rest.now
    (record { spelled = c.new-reader.ensures ∙ request.spelled; askable = request.askable })
    c.new-writer.result.bytes.items c.handle_message.new.writer.bytes.items h.0
    c.new-writer.ensures h.1 h.2

pub returns-in_default-clause-left : goal.returns-in_default-clause-left
returns-in_default-clause-left g c m request =
    left_by (g.N.Nine.at c.args.nine.now) (g.N.Nine.at c.handle_message.new.self)
    (g.met.N.Nine.good c.args.nine.now) m c.new-reader.result.rest.now
    c.handle_message.new.reader.rest.now
    (record { spelled = c.new-reader.ensures ∙ request.spelled; askable = request.askable }) _ _
    c.in_default.field-0 c.in_default.ensures.handled

pub returns-clause-kept : goal.returns-clause-kept
returns-clause-kept g c m request =
    kept_by (g.N.Nine.at c.args.nine.now) (g.N.Nine.at c.handle_message.new.self)
    (g.met.N.Nine.good c.args.nine.now) m c.new-reader.result.rest.now
    c.handle_message.new.reader.rest.now
    (record { spelled = c.new-reader.ensures ∙ request.spelled; askable = request.askable }) _ _
    (Ok tt) c.in-Ok.ensures.handled c.in-Ok.ensures.stays

pub returns-in_default-clause-kept : goal.returns-in_default-clause-kept
returns-in_default-clause-kept g c m request =
    kept_by (g.N.Nine.at c.args.nine.now) (g.N.Nine.at c.handle_message.new.self)
    (g.met.N.Nine.good c.args.nine.now) m c.new-reader.result.rest.now
    c.handle_message.new.reader.rest.now
    (record { spelled = c.new-reader.ensures ∙ request.spelled; askable = request.askable }) _ _
    (Err c.in_default.field-0) c.in_default.ensures.handled c.in_default.ensures.stays
