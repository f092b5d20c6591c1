-- A copy of a fid is made, or nothing.
use Rattle.std.proofs.Common.{ap, subst, List, ℕ, map}
use Rattle.p9_tmsg.specs.Messages.{Message}
use Rattle.p9_tmsg.specs.Messages.Message.{walk as t_walk}
use Rattle.p9_rmsg.specs.Replies.{reply_of}
use Rattle.p9_client.specs.Asking.{IsExchanged, IsUnfinishedAt}
use Rattle.p9_client.specs.Views.{copy_view}
use Rattle.p9_client.proofs.Telling.{fid_answered, fid_at, no_other, on_err, unfinished}
use Rattle.p9_client.proofs.Answering.{copy_tells}
use Rattle.p9_client.proofs.Only.{only_copy}
use Rattle.p9_client.proofs.fids.copy_fid.Goals as goal

pub returns-in-Walk-clause-answer : goal.returns-in-Walk-clause-answer
returns-in-Walk-clause-answer g c =
    fid_answered (λ f known. copy_tells (g.N.Nine.at c.args.nine.now).state
    (g.met.N.Nine.good c.args.nine.now) c.args.fid c.args.newfid f known c.requires.fresh
    c.requires.below)
    (subst (λ (m : Message). IsExchanged m (reply_of c.in_ok-_reply.field-0)
    (g.N.Nine.at c.args.nine.now) (g.N.Nine.at c.exchange.new.nine))
    (ap (λ (names : List (List ℕ)). t_walk c.args.fid c.args.newfid
    (map (λ (s : List ℕ). s) names)) c.new.ensures.items) c.in_ok-_reply.ensures.outcome)
    (ap (λ x. copy_view (reply_of x)) c.in-Walk.is)

pub returns-in-Lerror-clause-answer : goal.returns-in-Lerror-clause-answer
returns-in-Lerror-clause-answer g c =
    fid_answered (λ f known. copy_tells (g.N.Nine.at c.args.nine.now).state
    (g.met.N.Nine.good c.args.nine.now) c.args.fid c.args.newfid f known c.requires.fresh
    c.requires.below)
    (subst (λ (m : Message). IsExchanged m (reply_of c.in_ok-_reply.field-0)
    (g.N.Nine.at c.args.nine.now) (g.N.Nine.at c.exchange.new.nine))
    (ap (λ (names : List (List ℕ)). t_walk c.args.fid c.args.newfid
    (map (λ (s : List ℕ). s) names)) c.new.ensures.items) c.in_ok-_reply.ensures.outcome)
    (ap (λ x. copy_view (reply_of x)) c.in-Lerror.is)

pub returns-in_err-_reply-clause-unfinished : goal.returns-in_err-_reply-clause-unfinished
returns-in_err-_reply-clause-unfinished g c =
    let f = fid_at _ c.requires.known in
    on_err c.from_residual.result _ (unfinished
    (copy_tells (g.N.Nine.at c.args.nine.now).state (g.met.N.Nine.good c.args.nine.now)
    c.args.fid c.args.newfid f.0 f.1 c.requires.fresh c.requires.below) _ _ _
    (subst (λ (m : Message). IsUnfinishedAt m (g.N.Nine.at c.args.nine.now)
    (g.N.Nine.at c.exchange.new.nine)) (ap
    (λ (names : List (List ℕ)). t_walk c.args.fid c.args.newfid (map (λ (s : List ℕ). s) names))
    c.new.ensures.items) c.in_err-_reply.ensures.err))

pub unreachable-requires : goal.unreachable-requires
unreachable-requires g c =
    let f = fid_at _ c.requires.known in
    let e = subst (λ (m : Message). IsExchanged m (reply_of c.in_ok-_reply.field-0)
    (g.N.Nine.at c.args.nine.now) (g.N.Nine.at c.exchange.new.nine))
    (ap (λ (names : List (List ℕ)). t_walk c.args.fid c.args.newfid
    (map (λ (s : List ℕ). s) names)) c.new.ensures.items) c.in_ok-_reply.ensures.outcome in
    no_other (copy_tells (g.N.Nine.at c.args.nine.now).state (g.met.N.Nine.good c.args.nine.now)
    c.args.fid c.args.newfid f.0 f.1 c.requires.fresh c.requires.below) _ _ _ _ e.outcome
    (only_copy c.in_ok-_reply.field-0 c.in_default.not-Walk c.in_default.not-Lerror)
