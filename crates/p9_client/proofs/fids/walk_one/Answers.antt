-- A walk by one name gives the qid that the machine tells, or its refusal.
use Rattle.std.proofs.Common.{ap, subst, sym}
use Rattle.p9_tmsg.specs.Messages.{Message}
use Rattle.p9_rmsg.specs.Replies.{reply_of}
use Rattle.p9_client.specs.Asking.{IsAskable, IsExchanged, IsUnfinishedAt}
use Rattle.p9_client.specs.Views.{walk_one_view}
use Rattle.p9_client.proofs.Names.{walk_askable}
use Rattle.p9_client.proofs.Telling.{fid_answered, fid_at, no_other, on_err, unfinished}
use Rattle.p9_client.proofs.Answering.{walk_one_tells, first_qid}
use Rattle.p9_client.proofs.Only.{only_walk}
use Rattle.p9_client.proofs.fids.walk_one.Goals as goal

pub exchange-requires : goal.exchange-requires
exchange-requires g c = subst (IsAskable (g.N.Nine.at c.args.nine.now).state)
    (sym c.in_ok-message.ensures) (walk_askable (g.N.Nine.at c.args.nine.now).state c.args.fid
    c.args.newfid c.args.name.now c.requires.roomy c.ranges.fid.fits c.ranges.newfid.fits
    c.requires.named)

pub returns-in-Some-clause-answer : goal.returns-in-Some-clause-answer
returns-in-Some-clause-answer g c =
    let e = subst (λ (m : Message). IsExchanged m (reply_of c.in_ok-reply.field-0)
    (g.N.Nine.at c.args.nine.now) (g.N.Nine.at c.exchange.new.nine)) c.in_ok-message.ensures
    c.in_ok-reply.ensures.outcome in
    fid_answered (λ f known. walk_one_tells (g.N.Nine.at c.args.nine.now).state
    (g.met.N.Nine.good c.args.nine.now) c.args.fid c.args.newfid f known c.requires.fresh
    c.requires.below c.args.name.now c.requires.named) e
    (first_qid _ _ _ _ c.in-Walk.is c.deref.ensures.value c.in-Some.ensures.value
    (λ none. let f = fid_at _ c.requires.known in no_other
    (walk_one_tells (g.N.Nine.at c.args.nine.now).state (g.met.N.Nine.good c.args.nine.now)
    c.args.fid c.args.newfid f.0 f.1 c.requires.fresh c.requires.below c.args.name.now
    c.requires.named) _ _ _ _ e.outcome none))

pub returns-in-Lerror-clause-answer : goal.returns-in-Lerror-clause-answer
returns-in-Lerror-clause-answer g c =
    fid_answered (λ f known. walk_one_tells (g.N.Nine.at c.args.nine.now).state
    (g.met.N.Nine.good c.args.nine.now) c.args.fid c.args.newfid f known c.requires.fresh
    c.requires.below c.args.name.now c.requires.named)
    (subst (λ (m : Message). IsExchanged m (reply_of c.in_ok-reply.field-0)
    (g.N.Nine.at c.args.nine.now) (g.N.Nine.at c.exchange.new.nine)) c.in_ok-message.ensures
    c.in_ok-reply.ensures.outcome)
    (ap (λ x. walk_one_view (reply_of x)) c.in-Lerror.is)

pub returns-in_err-reply-clause-unfinished : goal.returns-in_err-reply-clause-unfinished
returns-in_err-reply-clause-unfinished g c =
    let f = fid_at _ c.requires.known in
    on_err c.from_residual-in_err-reply.result _
    (unfinished (walk_one_tells (g.N.Nine.at c.args.nine.now).state
    (g.met.N.Nine.good c.args.nine.now) c.args.fid c.args.newfid f.0 f.1 c.requires.fresh
    c.requires.below c.args.name.now c.requires.named) _ _ _
    (subst (λ (m : Message). IsUnfinishedAt m (g.N.Nine.at c.args.nine.now)
    (g.N.Nine.at c.exchange.new.nine)) c.in_ok-message.ensures c.in_err-reply.ensures.err))

pub unreachable-requires-in_default : goal.unreachable-requires-in_default
unreachable-requires-in_default g c =
    let f = fid_at _ c.requires.known in
    let e = subst (λ (m : Message). IsExchanged m (reply_of c.in_ok-reply.field-0)
    (g.N.Nine.at c.args.nine.now) (g.N.Nine.at c.exchange.new.nine)) c.in_ok-message.ensures
    c.in_ok-reply.ensures.outcome in
    no_other (walk_one_tells (g.N.Nine.at c.args.nine.now).state (g.met.N.Nine.good c.args.nine.now)
    c.args.fid c.args.newfid f.0 f.1 c.requires.fresh c.requires.below c.args.name.now
    c.requires.named) _ _ _ _ e.outcome (only_walk c.in_ok-reply.field-0 c.in_default.not-Walk
    c.in_default.not-Lerror)
