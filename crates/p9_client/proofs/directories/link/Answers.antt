-- One more name, by the machine.
use Rattle.std.proofs.Common.{Some, inl, refl, ap, subst, sym}
use Rattle.std.proofs.lemmas.Result.{err_from_is_err_and}
use Rattle.p9_client.specs.Asking.{IsAskable}
use Rattle.p9_client.proofs.Changing.{gives_answer, gives_nothing, gives_unfinished}
use Rattle.p9_client.proofs.Names.{link_askable}
use Rattle.p9_client.proofs.Told.{link_tells}
use Rattle.p9_client.proofs.directories.link.Goals as goal

pub exchange-requires : goal.exchange-requires
exchange-requires g c = subst (IsAskable (g.N.Nine.at c.args.nine.now).state)
    (sym c.in_ok-message.ensures) (link_askable (g.N.Nine.at c.args.nine.now).state c.requires.roomy
    c.args.fid c.ranges.fid.fits c.args.name.now c.requires.named c.args.dfid c.ranges.dfid.fits)

pub returns-in_err-message : goal.returns-in_err-message
returns-in_err-message g c =
    let p = err_from_is_err_and c.from_residual.result c.from_residual.ensures.1 in
    gives_nothing c.from_residual.result p.0 p.1 (inl refl)

pub returns-in_err-reply : goal.returns-in_err-reply
returns-in_err-reply g c =
    let p = err_from_is_err_and c.from_residual-in_err-reply.result
    c.from_residual-in_err-reply.ensures.1 in
    gives_unfinished (link_tells (g.N.Nine.at c.args.nine.now).state
    (g.met.N.Nine.good c.args.nine.now) c.args.dfid c.args.fid c.args.name.now)
    c.in_ok-message.ensures c.from_residual-in_err-reply.result p.0 p.1 c.in_err-reply.ensures.err
    c.in_err-reply.ensures.kept

pub returns : goal.returns
returns g c = gives_answer (link_tells (g.N.Nine.at c.args.nine.now).state
    (g.met.N.Nine.good c.args.nine.now) c.args.dfid c.args.fid c.args.name.now)
    c.in_ok-message.ensures c.done.result c.in_ok-reply.ensures.outcome
    (ap Some (sym c.done.ensures)) c.in_ok-reply.ensures.kept
