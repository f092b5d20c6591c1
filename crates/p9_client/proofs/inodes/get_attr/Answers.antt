-- The attributes that were asked for are those that the machine tells.
use Rattle.std.proofs.Common.{ap}
use Rattle.p9_wire.specs.declared.protocol.TheConstants.{P9_GETATTR_BASIC}
use Rattle.p9_rmsg.specs.Replies.{reply_of}
use Rattle.p9_client.specs.Views.{attributes_view}
use Rattle.p9_client.proofs.Telling.{fid_answered, fid_at, no_other, on_err, unfinished}
use Rattle.p9_client.proofs.Answering.{attributes_tell}
use Rattle.p9_client.proofs.Only.{only_attributes}
use Rattle.p9_client.proofs.inodes.get_attr.Goals as goal

pub returns-in-GetAttr-clause-answer : goal.returns-in-GetAttr-clause-answer
returns-in-GetAttr-clause-answer g c =
    fid_answered (λ f known. attributes_tell (g.N.Nine.at c.args.nine.now).state
    (g.met.N.Nine.good c.args.nine.now) c.args.fid f known P9_GETATTR_BASIC)
    c.in_ok-reply.ensures.outcome (ap (λ x. attributes_view (reply_of x)) c.in-GetAttr.is)

pub returns-in-Lerror-clause-answer : goal.returns-in-Lerror-clause-answer
returns-in-Lerror-clause-answer g c =
    fid_answered (λ f known. attributes_tell (g.N.Nine.at c.args.nine.now).state
    (g.met.N.Nine.good c.args.nine.now) c.args.fid f known P9_GETATTR_BASIC)
    c.in_ok-reply.ensures.outcome (ap (λ x. attributes_view (reply_of x)) c.in-Lerror.is)

pub returns-in_err-reply-clause-unfinished : goal.returns-in_err-reply-clause-unfinished
returns-in_err-reply-clause-unfinished g c =
    let f = fid_at _ c.requires.known in
    on_err c.from_residual.result _ (unfinished
    (attributes_tell (g.N.Nine.at c.args.nine.now).state (g.met.N.Nine.good c.args.nine.now)
    c.args.fid f.0 f.1 P9_GETATTR_BASIC) _ _ _ c.in_err-reply.ensures.err)

pub unreachable-requires : goal.unreachable-requires
unreachable-requires g c =
    let f = fid_at _ c.requires.known in
    no_other (attributes_tell (g.N.Nine.at c.args.nine.now).state
    (g.met.N.Nine.good c.args.nine.now) c.args.fid f.0 f.1 P9_GETATTR_BASIC) _ _ _ _
    c.in_ok-reply.ensures.outcome.outcome
    (only_attributes c.in_ok-reply.field-0 c.in_default.not-GetAttr c.in_default.not-Lerror)
