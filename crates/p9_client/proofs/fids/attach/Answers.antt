-- An attach gives the qid of the root that the machine tells, or its refusal.
use Rattle.std.proofs.Common.{ap, subst, []}
use Rattle.p9_wire.specs.declared.protocol.TheConstants.{P9_NOFID}
use Rattle.p9_tmsg.specs.Messages.{Message}
use Rattle.p9_rmsg.specs.Replies.{reply_of}
use Rattle.p9_client.specs.Asking.{IsExchanged, IsUnfinishedAt}
use Rattle.p9_client.specs.Views.{attach_view}
use Rattle.p9_client.proofs.Telling.{answered, no_other, on_err, unfinished}
use Rattle.p9_client.proofs.Answering.{attach_tells}
use Rattle.p9_client.proofs.Only.{only_attach}
use Rattle.p9_client.proofs.fids.attach.Goals as goal

pub returns-in-Attach-clause-answer : goal.returns-in-Attach-clause-answer
returns-in-Attach-clause-answer g c =
    answered (attach_tells (g.N.Nine.at c.args.nine.now).state (g.met.N.Nine.good c.args.nine.now)
    c.args.fid c.requires.none P9_NOFID [] [] 0)
    (subst (λ (m : Message). IsExchanged m (reply_of c.in_ok-reply.field-0)
    (g.N.Nine.at c.args.nine.now) (g.N.Nine.at c.exchange.new.nine)) c.in_ok-message.ensures
    c.in_ok-reply.ensures.outcome) (ap (λ x. attach_view (reply_of x)) c.in-Attach.is)

pub returns-in-Lerror-clause-answer : goal.returns-in-Lerror-clause-answer
returns-in-Lerror-clause-answer g c =
    answered (attach_tells (g.N.Nine.at c.args.nine.now).state (g.met.N.Nine.good c.args.nine.now)
    c.args.fid c.requires.none P9_NOFID [] [] 0)
    (subst (λ (m : Message). IsExchanged m (reply_of c.in_ok-reply.field-0)
    (g.N.Nine.at c.args.nine.now) (g.N.Nine.at c.exchange.new.nine)) c.in_ok-message.ensures
    c.in_ok-reply.ensures.outcome) (ap (λ x. attach_view (reply_of x)) c.in-Lerror.is)

pub returns-in_err-reply-clause-unfinished : goal.returns-in_err-reply-clause-unfinished
returns-in_err-reply-clause-unfinished g c =
    on_err c.from_residual-in_err-reply.result _
    (unfinished (attach_tells (g.N.Nine.at c.args.nine.now).state
    (g.met.N.Nine.good c.args.nine.now) c.args.fid c.requires.none P9_NOFID [] [] 0) _ _ _
    (subst (λ (m : Message). IsUnfinishedAt m (g.N.Nine.at c.args.nine.now)
    (g.N.Nine.at c.exchange.new.nine)) c.in_ok-message.ensures c.in_err-reply.ensures.err))

pub unreachable-requires : goal.unreachable-requires
unreachable-requires g c =
    let e = subst (λ (m : Message). IsExchanged m (reply_of c.in_ok-reply.field-0)
    (g.N.Nine.at c.args.nine.now) (g.N.Nine.at c.exchange.new.nine)) c.in_ok-message.ensures
    c.in_ok-reply.ensures.outcome in
    no_other (attach_tells (g.N.Nine.at c.args.nine.now).state (g.met.N.Nine.good c.args.nine.now)
    c.args.fid c.requires.none P9_NOFID [] [] 0) _ _ _ _ e.outcome
    (only_attach c.in_ok-reply.field-0 c.in_default.not-Attach c.in_default.not-Lerror)
