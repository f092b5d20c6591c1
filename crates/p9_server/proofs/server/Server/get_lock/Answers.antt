-- No lock stands in the way of a fid that is open.
use Rattle.std.proofs.Common.{refl, arith}
use Rattle.std.specs.Prelude.{length, ◌+◌}
use Rattle.p9_tmsg.specs.Messages.Message.{getlock}
use Rattle.p9_rmsg.specs.Replies.Reply.{getlock as free}
use Rattle.p9_rmsg.specs.declared.message.Rgetlock.{Rgetlock}
use Rattle.fid_model.specs.Fids.{is_open}
use Rattle.p9_server.specs.Steps.{server_state}
use Rattle.p9_server.proofs.HoldCounts.{kept_named}
use Rattle.p9_server.proofs.Asking.{unopened_step, lt_true, lt_false}
use Rattle.p9_server.proofs.Locks.{named, long_name_step, free_step}
use Rattle.p9_server.proofs.server.Server.get_lock.Goals as goal

pub returns-in_err-open_ino-clause-step : goal.returns-in_err-open_ino-clause-step
returns-in_err-open_ino-clause-step g c =
    let s = c.args.self.now in
    let m = c.args.m in
    let tree = g.H.Host.tree s.host in
    let kept = kept_named (g.H.Host.holds s.host) s.fids s.sound.held tree
    (g.met.H.Host.stored s.host).kept in
    unopened_step {A = Rgetlock} (getlock m.fid m.kind_ m.start m.length m.proc_id m.client_id)
    (λ r. free r.kind_ r.start r.length r.proc_id r.client_id)
    (free 2 m.start m.length m.proc_id) (server_state tree s.fids s.msize s.share) kept
    (g.H.Host.calls s.host).steady (named s.msize m.client_id) m.fid
    (g.H.Host.calls s.host).faults
    c.from_residual.result c.in_err-open_ino.field-0.0 c.from_residual.ensures.1 is_open refl
    c.in_err-open_ino.ensures

pub returns-then-self-len-clause-step : goal.returns-then-self-len-clause-step
returns-then-self-len-clause-step g c =
    let s = c.args.self.now in
    let m = c.args.m in
    let tree = g.H.Host.tree s.host in
    let kept = kept_named (g.H.Host.holds s.host) s.fids s.sound.held tree
    (g.met.H.Host.stored s.host).kept in
    long_name_step {A = Rgetlock} (λ r. free r.kind_ r.start r.length r.proc_id r.client_id) tree
    s.fids s.msize s.share m.fid m.kind_ m.start m.length m.proc_id m.client_id kept
    (g.H.Host.calls s.host).steady (g.H.Host.calls s.host).faults c.in_ok-open_ino.field-0
    c.in_ok-open_ino.ensures
    (lt_true s.msize (30 + length m.client_id) (omega (arith, c.if-self-len.true, c.len.ensures)))

pub returns-clause-step : goal.returns-clause-step
returns-clause-step g c =
    let s = c.args.self.now in
    let m = c.args.m in
    let tree = g.H.Host.tree s.host in
    let kept = kept_named (g.H.Host.holds s.host) s.fids s.sound.held tree
    (g.met.H.Host.stored s.host).kept in
    free_step {A = Rgetlock} (λ r. free r.kind_ r.start r.length r.proc_id r.client_id) tree s.fids
    s.msize s.share m.fid m.kind_ m.start m.length m.proc_id m.client_id kept
    (g.H.Host.calls s.host).steady (g.H.Host.calls s.host).faults c.in_ok-open_ino.field-0
    c.in_ok-open_ino.ensures
    (lt_false s.msize (30 + length m.client_id) (omega (arith, c.if-self-len.false, c.len.ensures)))
    (record {
      kind_ = 2;
      start = m.start;
      length = m.length;
      proc_id = m.proc_id;
      client_id =
          m.client_id;
    }) refl
