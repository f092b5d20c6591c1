-- A special file is always refused.
use Rattle.std.proofs.Common.{inl, refl, ap, subst, sym}
use Rattle.std.proofs.lemmas.Result.{err_from_is_err_and}
use Rattle.p9_tmsg.specs.Messages.{Message}
use Rattle.p9_rmsg.specs.Replies.{reply_of}
use Rattle.p9_client.specs.Asking.{IsAskable, IsExchanged}
use Rattle.p9_client.specs.Views.{mknod_view}
use Rattle.p9_client.proofs.Changing.{gives_answer, gives_nothing, gives_unfinished}
use Rattle.p9_client.proofs.Names.{mknod_askable}
use Rattle.p9_client.proofs.Only.{only_mknod}
use Rattle.p9_client.proofs.Telling.{no_other}
use Rattle.p9_client.proofs.Told.{mknod_tells}
use Rattle.p9_client.proofs.specials.mknod.Goals as goal

pub exchange-requires : goal.exchange-requires
exchange-requires g c = subst (IsAskable (g.N.Nine.at c.args.nine.now).state)
    (sym c.in_ok-message.ensures.exact) (mknod_askable (g.N.Nine.at c.args.nine.now).state
    c.requires.roomy c.args.dfid c.args.mode c.ranges.dfid.fits c.ranges.mode.fits c.args.name.now
    c.requires.named c.args.device.major c.args.device.minor c.mknod_message.ensures.bounded.0
    c.mknod_message.ensures.bounded.1)

pub returns-in_err-message : goal.returns-in_err-message
returns-in_err-message g c =
    let p = err_from_is_err_and c.from_residual.result c.from_residual.ensures.1 in
    gives_nothing c.from_residual.result p.0 p.1 (refl)

pub returns-in_err-reply : goal.returns-in_err-reply
returns-in_err-reply g c =
    let p = err_from_is_err_and c.from_residual-in_err-reply.result
    c.from_residual-in_err-reply.ensures.1 in
    gives_unfinished (mknod_tells (g.N.Nine.at c.args.nine.now).state
    (g.met.N.Nine.good c.args.nine.now) c.args.dfid c.args.name.now c.args.mode
    c.args.device.major c.args.device.minor) c.in_ok-message.ensures.exact
    c.from_residual-in_err-reply.result p.0
    p.1 c.in_err-reply.ensures.err c.in_err-reply.ensures.kept

pub returns-in-Mknod : goal.returns-in-Mknod
returns-in-Mknod g c = gives_answer (mknod_tells (g.N.Nine.at c.args.nine.now).state
    (g.met.N.Nine.good c.args.nine.now) c.args.dfid c.args.name.now c.args.mode c.args.device.major
    c.args.device.minor) c.in_ok-message.ensures.exact _ c.in_ok-reply.ensures.outcome
    (ap (λ x. mknod_view (reply_of x)) c.in-Mknod.is) c.in_ok-reply.ensures.kept

pub returns-in-Lerror : goal.returns-in-Lerror
returns-in-Lerror g c = gives_answer (mknod_tells (g.N.Nine.at c.args.nine.now).state
    (g.met.N.Nine.good c.args.nine.now) c.args.dfid c.args.name.now c.args.mode c.args.device.major
    c.args.device.minor) c.in_ok-message.ensures.exact _ c.in_ok-reply.ensures.outcome
    (ap (λ x. mknod_view (reply_of x)) c.in-Lerror.is) c.in_ok-reply.ensures.kept

pub unreachable-requires : goal.unreachable-requires
unreachable-requires g c = no_other (mknod_tells (g.N.Nine.at c.args.nine.now).state
    (g.met.N.Nine.good c.args.nine.now) c.args.dfid c.args.name.now c.args.mode c.args.device.major
    c.args.device.minor) _ _ _ _ (subst (λ (m : Message). IsExchanged m
    (reply_of c.in_ok-reply.field-0) (g.N.Nine.at c.args.nine.now)
    (g.N.Nine.at c.exchange.new.nine)) c.in_ok-message.ensures.exact
    c.in_ok-reply.ensures.outcome).outcome (only_mknod c.in_ok-reply.field-0 c.in_default.not-Mknod
    c.in_default.not-Lerror)
