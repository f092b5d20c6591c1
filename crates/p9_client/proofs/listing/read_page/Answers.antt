-- A page of a directory, by the machine.
use Rattle.std.proofs.Common.{refl, ap}
use Rattle.std.proofs.lemmas.Result.{err_from_is_err_and}
use Rattle.p9_rmsg.specs.Replies.{reply_of}
use Rattle.p9_client.specs.Views.{page_view}
use Rattle.p9_client.proofs.Changing.{gives_answer, gives_unfinished}
use Rattle.p9_client.proofs.Only.{only_page}
use Rattle.p9_client.proofs.Telling.{no_other}
use Rattle.p9_client.proofs.Told.{page_tells}
use Rattle.p9_client.proofs.listing.read_page.Goals as goal

pub returns-in_err-reply : goal.returns-in_err-reply
returns-in_err-reply g c =
    let p = err_from_is_err_and c.from_residual.result c.from_residual.ensures.1 in
    gives_unfinished (page_tells (g.N.Nine.at c.args.nine.now).state
    (g.met.N.Nine.good c.args.nine.now) c.args.fid c.args.offset c.args.count) refl
    c.from_residual.result p.0 p.1
    c.in_err-reply.ensures.err c.in_err-reply.ensures.kept

pub returns-in-Readdir : goal.returns-in-Readdir
returns-in-Readdir g c = gives_answer (page_tells (g.N.Nine.at c.args.nine.now).state
    (g.met.N.Nine.good c.args.nine.now) c.args.fid c.args.offset c.args.count) refl _
    c.in_ok-reply.ensures.outcome
    (ap (λ x. page_view (reply_of x)) c.in-Readdir.is) c.in_ok-reply.ensures.kept

pub returns-in-Lerror : goal.returns-in-Lerror
returns-in-Lerror g c = gives_answer (page_tells (g.N.Nine.at c.args.nine.now).state
    (g.met.N.Nine.good c.args.nine.now) c.args.fid c.args.offset c.args.count) refl _
    c.in_ok-reply.ensures.outcome
    (ap (λ x. page_view (reply_of x)) c.in-Lerror.is) c.in_ok-reply.ensures.kept

pub unreachable-requires : goal.unreachable-requires
unreachable-requires g c = no_other (page_tells (g.N.Nine.at c.args.nine.now).state
    (g.met.N.Nine.good c.args.nine.now) c.args.fid c.args.offset c.args.count) _ _ _ _
    c.in_ok-reply.ensures.outcome.outcome
    (only_page c.in_ok-reply.field-0 c.in_default.not-Readdir c.in_default.not-Lerror)
