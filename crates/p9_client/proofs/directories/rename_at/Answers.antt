-- A name that moves, by the machine.
use Rattle.std.proofs.Common.{Some, inl, refl, ap, subst, sym}
use Rattle.std.proofs.lemmas.Result.{err_from_is_err_and}
use Rattle.p9_client.specs.Asking.{IsAskable}
use Rattle.p9_client.proofs.Changing.{gives_answer, gives_nothing, gives_unfinished}
use Rattle.p9_client.proofs.Names.{renameat_askable}
use Rattle.p9_client.proofs.Told.{rename_tells}
use Rattle.p9_client.proofs.directories.rename_at.Goals as goal

pub exchange-requires : goal.exchange-requires
exchange-requires g c = subst (IsAskable (g.N.Nine.at c.args.nine.now).state)
    (sym c.in_ok-message.ensures) (renameat_askable (g.N.Nine.at c.args.nine.now).state
    c.requires.roomy c.args.old_dirfid c.ranges.old_dirfid.fits c.args.old_name.now
    c.requires.old_named c.args.new_dirfid c.ranges.new_dirfid.fits c.args.new_name.now
    c.requires.new_named)

pub returns-in_err-message : goal.returns-in_err-message
returns-in_err-message g c =
    let p = err_from_is_err_and c.from_residual.result c.from_residual.ensures.1 in
    gives_nothing c.from_residual.result p.0 p.1 (inl refl)

pub returns-in_err-reply : goal.returns-in_err-reply
returns-in_err-reply g c =
    let p = err_from_is_err_and c.from_residual-in_err-reply.result
    c.from_residual-in_err-reply.ensures.1 in
    gives_unfinished (rename_tells (g.N.Nine.at c.args.nine.now).state
    (g.met.N.Nine.good c.args.nine.now) c.args.old_dirfid c.args.old_name.now c.args.new_dirfid
    c.args.new_name.now) c.in_ok-message.ensures c.from_residual-in_err-reply.result p.0 p.1
    c.in_err-reply.ensures.err c.in_err-reply.ensures.kept

pub returns : goal.returns
returns g c = gives_answer (rename_tells (g.N.Nine.at c.args.nine.now).state
    (g.met.N.Nine.good c.args.nine.now) c.args.old_dirfid c.args.old_name.now c.args.new_dirfid
    c.args.new_name.now) c.in_ok-message.ensures c.done.result c.in_ok-reply.ensures.outcome
    (ap Some (sym c.done.ensures)) c.in_ok-reply.ensures.kept
