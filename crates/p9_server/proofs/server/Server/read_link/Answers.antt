-- The target of a link, or all is as it was.
use Rattle.std.proofs.Common.{refl, ap, ◌∙◌, Vec, List, ℕ, length, arith}
use Rattle.std.specs.Prelude.{◌+◌}
use Rattle.p9_tmsg.specs.Messages.Message.{readlink}
use Rattle.p9_rmsg.specs.Replies.Reply.{readlink as target}
use Rattle.fid_model.specs.Files.{fitting_target}
use Rattle.tree_model.specs.Opening.{readlink_of}
use Rattle.p9_server.specs.Steps.{server_state}
use Rattle.p9_server.proofs.HoldCounts.{kept_named}
use Rattle.p9_server.proofs.Showing.{named_held}
use Rattle.p9_server.proofs.Asking.{unknown_step, lt_true, lt_false}
use Rattle.p9_server.proofs.Targets.{no_target_step, long_step, target_step}
use Rattle.p9_server.proofs.server.Server.read_link.Goals as goal

pub returns-in_err-ino-clause-step : goal.returns-in_err-ino-clause-step
returns-in_err-ino-clause-step g c =
    let s = c.args.self.now in
    let tree = g.H.Host.tree s.host in
    let kept = kept_named (g.H.Host.holds s.host) s.fids s.sound.held tree
    (g.met.H.Host.stored s.host).kept in
    unknown_step (readlink c.args.fid) (λ text. target text) target
    (server_state tree s.fids s.msize s.share) kept (g.H.Host.calls s.host).steady
    (λ f. fitting_target s.msize (readlink_of tree f.ino)) c.args.fid
    (g.H.Host.calls s.host).faults
    c.from_residual.result c.in_err-ino.field-0.0 c.from_residual.ensures.1 refl
    c.in_err-ino.ensures

pub readlink-requires : goal.readlink-requires
readlink-requires g c = let s = c.args.self.now in named_held (g.H.Host.holds s.host) s.fids
    s.sound.held c.args.fid c.in_ok-ino.ino c.in_ok-ino.ensures

pub returns-in_err-target-clause-step : goal.returns-in_err-target-clause-step
returns-in_err-target-clause-step g c =
    let s = c.args.self.now in
    let tree = g.H.Host.tree s.host in
    let kept = kept_named (g.H.Host.holds s.host) s.fids s.sound.held tree
    (g.met.H.Host.stored s.host).kept in
    let e = c.in_err-target.ensures in
    no_target_step tree s.fids s.msize s.share c.args.fid kept (g.H.Host.calls s.host).steady
    c.in_ok-ino.ino c.in_ok-ino.ensures (g.H.Host.tree c.readlink.new.self) e.tree
    (g.H.Host.calls s.host).faults (g.H.Host.calls c.readlink.new.self).faults
    {D = Vec _ _} (λ text. target text) c.from_residual-in_err-target.result
    c.in_err-target.field-0.0 c.from_residual-in_err-target.ensures.1 e.answer e.caused.cause

pub returns-then-self-len-clause-step : goal.returns-then-self-len-clause-step
returns-then-self-len-clause-step g c =
    let s = c.args.self.now in
    let tree = g.H.Host.tree s.host in
    let kept = kept_named (g.H.Host.holds s.host) s.fids s.sound.held tree
    (g.met.H.Host.stored s.host).kept in
    let e = c.in_ok-target.ensures in
    long_step tree s.fids s.msize s.share c.args.fid kept (g.H.Host.calls s.host).steady
    c.in_ok-ino.ino c.in_ok-ino.ensures (g.H.Host.tree c.readlink.new.self) e.tree
    (g.H.Host.calls s.host).faults (g.H.Host.calls c.readlink.new.self).faults
    {A = List ℕ} (λ text. target text) c.in_ok-target.target.items e.answer.exactly
    e.caused.cause.counted
    (lt_true s.msize (9 + length c.in_ok-target.target.items)
    (omega (arith, c.if-self-len.true, c.len.ensures)))

pub returns-in-Ok-clause-step : goal.returns-in-Ok-clause-step
returns-in-Ok-clause-step g c =
    let s = c.args.self.now in
    let tree = g.H.Host.tree s.host in
    let kept = kept_named (g.H.Host.holds s.host) s.fids s.sound.held tree
    (g.met.H.Host.stored s.host).kept in
    let e = c.in_ok-target.ensures in
    target_step tree s.fids s.msize s.share c.args.fid kept (g.H.Host.calls s.host).steady
    c.in_ok-ino.ino c.in_ok-ino.ensures (g.H.Host.tree c.readlink.new.self) e.tree
    (g.H.Host.calls s.host).faults (g.H.Host.calls c.readlink.new.self).faults
    {A = List ℕ} (λ text. target text) c.in_ok-target.target.items e.answer.exactly
    e.caused.cause.counted
    (lt_false s.msize (9 + length c.in_ok-target.target.items)
    (omega (arith, c.if-self-len.false, c.len.ensures)))
    c.in-Ok.text (ap target (c.in-Ok.ensures.ok ∙ c.deref.ensures.value))
