-- An open gives the qid that the machine tells, or its refusal.
use Rattle.std.proofs.Common.{ap}
use Rattle.p9_rmsg.specs.Replies.{reply_of}
use Rattle.p9_client.specs.Views.{open_view}
use Rattle.p9_client.proofs.Telling.{fid_answered, fid_at, no_other, on_err, unfinished}
use Rattle.p9_client.proofs.Answering.{open_tells}
use Rattle.p9_client.proofs.Only.{only_open}
use Rattle.p9_client.proofs.fids.open.Goals as goal

pub returns-in-Lopen-clause-answer : goal.returns-in-Lopen-clause-answer
returns-in-Lopen-clause-answer g c =
    fid_answered (λ f known. open_tells (g.N.Nine.at c.args.nine.now).state
    (g.met.N.Nine.good c.args.nine.now) c.args.fid f known c.args.flags c.requires.whole)
    c.in_ok-reply.ensures.outcome (ap (λ x. open_view (reply_of x)) c.in-Lopen.is)

pub returns-in-Lerror-clause-answer : goal.returns-in-Lerror-clause-answer
returns-in-Lerror-clause-answer g c =
    fid_answered (λ f known. open_tells (g.N.Nine.at c.args.nine.now).state
    (g.met.N.Nine.good c.args.nine.now) c.args.fid f known c.args.flags c.requires.whole)
    c.in_ok-reply.ensures.outcome (ap (λ x. open_view (reply_of x)) c.in-Lerror.is)

pub returns-in_err-reply-clause-unfinished : goal.returns-in_err-reply-clause-unfinished
returns-in_err-reply-clause-unfinished g c =
    let f = fid_at _ c.requires.known in
    on_err c.from_residual.result _ (unfinished
    (open_tells (g.N.Nine.at c.args.nine.now).state (g.met.N.Nine.good c.args.nine.now)
    c.args.fid f.0 f.1 c.args.flags c.requires.whole) _ _ _ c.in_err-reply.ensures.err)

pub unreachable-requires : goal.unreachable-requires
unreachable-requires g c =
    let f = fid_at _ c.requires.known in
    no_other (open_tells (g.N.Nine.at c.args.nine.now).state (g.met.N.Nine.good c.args.nine.now)
    c.args.fid f.0 f.1 c.args.flags c.requires.whole) _ _ _ _
    c.in_ok-reply.ensures.outcome.outcome
    (only_open c.in_ok-reply.field-0 c.in_default.not-Lopen c.in_default.not-Lerror)
