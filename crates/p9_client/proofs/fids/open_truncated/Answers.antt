-- An open that may empty the file gives what the machine tells.
use Rattle.std.proofs.Common.{inl, refl, ap}
use Rattle.std.proofs.lemmas.Result.{err_from_is_err_and}
use Rattle.p9_rmsg.specs.Replies.{reply_of}
use Rattle.p9_client.specs.Views.{open_view}
use Rattle.p9_client.proofs.Changing.{emptied_tells, gives_answer, gives_unfinished}
use Rattle.p9_client.proofs.Only.{only_open}
use Rattle.p9_client.proofs.Telling.{no_other}
use Rattle.p9_client.proofs.fids.open_truncated.Goals as goal

pub returns-in_err-reply : goal.returns-in_err-reply
returns-in_err-reply g c =
    let p = err_from_is_err_and c.from_residual.result c.from_residual.ensures.1 in
    gives_unfinished (emptied_tells (g.N.Nine.at c.args.nine.now).state
    (g.met.N.Nine.good c.args.nine.now) c.args.fid c.args.flags)
    refl c.from_residual.result p.0 p.1 c.in_err-reply.ensures.err c.in_err-reply.ensures.kept

pub returns-in-Lopen : goal.returns-in-Lopen
returns-in-Lopen g c = gives_answer (emptied_tells (g.N.Nine.at c.args.nine.now).state
    (g.met.N.Nine.good c.args.nine.now) c.args.fid c.args.flags)
    refl _ c.in_ok-reply.ensures.outcome
    (ap (λ x. open_view (reply_of x)) c.in-Lopen.is) c.in_ok-reply.ensures.kept

pub returns-in-Lerror : goal.returns-in-Lerror
returns-in-Lerror g c = gives_answer (emptied_tells (g.N.Nine.at c.args.nine.now).state
    (g.met.N.Nine.good c.args.nine.now) c.args.fid c.args.flags)
    refl _ c.in_ok-reply.ensures.outcome
    (ap (λ x. open_view (reply_of x)) c.in-Lerror.is) c.in_ok-reply.ensures.kept

pub unreachable-requires : goal.unreachable-requires
unreachable-requires g c = no_other (emptied_tells (g.N.Nine.at c.args.nine.now).state
    (g.met.N.Nine.good c.args.nine.now) c.args.fid c.args.flags) _ _ _ _
    c.in_ok-reply.ensures.outcome.outcome
    (only_open c.in_ok-reply.field-0 c.in_default.not-Lopen c.in_default.not-Lerror)
