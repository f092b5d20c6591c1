-- A read gives the bytes that the machine tells, or its refusal.
use Rattle.std.proofs.Common.{◌≡◌, ap, true, subst, Option}
use Rattle.fid_model.specs.Fids.{Fid}
use Rattle.p9_rmsg.specs.Replies.{reply_of}
use Rattle.p9_client.specs.Opening.{is_readable_at}
use Rattle.p9_client.specs.Views.{read_view}
use Rattle.p9_client.proofs.Telling.{fid_answered, readable_fid_at, no_other, on_err, unfinished}
use Rattle.p9_client.proofs.Answering.{read_tells}
use Rattle.p9_client.proofs.Only.{only_read}
use Rattle.p9_client.proofs.inodes.read.Goals as goal

pub returns-in-Read-clause-answer : goal.returns-in-Read-clause-answer
returns-in-Read-clause-answer g c =
    fid_answered (λ f known. read_tells (g.N.Nine.at c.args.nine.now).state
    (g.met.N.Nine.good c.args.nine.now) c.args.fid f known c.args.offset c.args.count
    (subst (λ (o : Option Fid). is_readable_at o ≡ true) known c.requires.known))
    c.in_ok-reply.ensures.outcome (ap (λ x. read_view (reply_of x)) c.in-Read.is)

pub returns-in-Lerror-clause-answer : goal.returns-in-Lerror-clause-answer
returns-in-Lerror-clause-answer g c =
    fid_answered (λ f known. read_tells (g.N.Nine.at c.args.nine.now).state
    (g.met.N.Nine.good c.args.nine.now) c.args.fid f known c.args.offset c.args.count
    (subst (λ (o : Option Fid). is_readable_at o ≡ true) known c.requires.known))
    c.in_ok-reply.ensures.outcome (ap (λ x. read_view (reply_of x)) c.in-Lerror.is)

pub returns-in_err-reply-clause-unfinished : goal.returns-in_err-reply-clause-unfinished
returns-in_err-reply-clause-unfinished g c =
    let f = readable_fid_at _ c.requires.known in
    on_err c.from_residual.result _ (unfinished
    (read_tells (g.N.Nine.at c.args.nine.now).state (g.met.N.Nine.good c.args.nine.now)
    c.args.fid f.0 f.1 c.args.offset c.args.count f.2) _ _ _ c.in_err-reply.ensures.err)

pub unreachable-requires : goal.unreachable-requires
unreachable-requires g c =
    let f = readable_fid_at _ c.requires.known in
    no_other (read_tells (g.N.Nine.at c.args.nine.now).state (g.met.N.Nine.good c.args.nine.now)
    c.args.fid f.0 f.1 c.args.offset c.args.count f.2) _ _ _ _
    c.in_ok-reply.ensures.outcome.outcome
    (only_read c.in_ok-reply.field-0 c.in_default.not-Read c.in_default.not-Lerror)
