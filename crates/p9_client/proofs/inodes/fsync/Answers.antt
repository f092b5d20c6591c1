-- What was written is kept, by the machine.
use Rattle.std.proofs.Common.{Some, refl, ap, sym}
use Rattle.std.proofs.lemmas.Result.{err_from_is_err_and}
use Rattle.p9_client.proofs.Changing.{gives_answer, gives_unfinished}
use Rattle.p9_client.proofs.Told.{fsync_tells}
use Rattle.p9_client.proofs.inodes.fsync.Goals as goal

pub returns-in_err-reply : goal.returns-in_err-reply
returns-in_err-reply g c =
    let p = err_from_is_err_and c.from_residual.result c.from_residual.ensures.1 in
    gives_unfinished (fsync_tells (g.N.Nine.at c.args.nine.now).state
    (g.met.N.Nine.good c.args.nine.now) c.args.fid) refl c.from_residual.result p.0 p.1
    c.in_err-reply.ensures.err c.in_err-reply.ensures.kept

pub returns : goal.returns
returns g c = gives_answer (fsync_tells (g.N.Nine.at c.args.nine.now).state
    (g.met.N.Nine.good c.args.nine.now) c.args.fid) refl c.done.result c.in_ok-reply.ensures.outcome
    (ap Some (sym c.done.ensures)) c.in_ok-reply.ensures.kept
