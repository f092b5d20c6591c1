-- A lock of a fid that is open is had.
use Rattle.std.proofs.Common.{refl}
use Rattle.std.specs.FinMap.{get}
use Rattle.p9_tmsg.specs.Messages.Message.{lock}
use Rattle.p9_rmsg.specs.Replies.Reply.{lock as locked}
use Rattle.p9_rmsg.specs.declared.message.Rlock.{Rlock}
use Rattle.fid_model.specs.Fids.{is_open}
use Rattle.fid_model.specs.FidCalls.{by_open_fid}
use Rattle.p9_server.specs.Steps.{server_state}
use Rattle.p9_server.proofs.HoldCounts.{kept_named}
use Rattle.p9_server.proofs.Asking.{unopened_step, by_opened, told_step}
use Rattle.p9_server.proofs.Locks.{nothing}
use Rattle.p9_server.proofs.server.Server.lock.Goals as goal

pub returns-in_err-open_ino : goal.returns-in_err-open_ino
returns-in_err-open_ino g c =
    let s = c.args.self.now in
    let m = c.args.m in
    let tree = g.H.Host.tree s.host in
    let kept = kept_named (g.H.Host.holds s.host) s.fids s.sound.held tree
    (g.met.H.Host.stored s.host).kept in
    record {
      step = unopened_step {A = Rlock} (lock m.fid m.kind_ m.flags m.start m.length m.proc_id
          m.client_id) (λ r. locked r.status) (λ _. locked 0)
          (server_state tree s.fids s.msize s.share) kept (g.H.Host.calls s.host).steady nothing
          m.fid (g.H.Host.calls s.host).faults
          c.from_residual.result c.in_err-open_ino.field-0.0 c.from_residual.ensures.1 is_open refl
          c.in_err-open_ino.ensures;
    }

pub returns : goal.returns
returns g c =
    let s = c.args.self.now in
    let m = c.args.m in
    let tree = g.H.Host.tree s.host in
    let kept = kept_named (g.H.Host.holds s.host) s.fids s.sound.held tree
    (g.met.H.Host.stored s.host).kept in
    record {
      step = told_step {A = Rlock} (lock m.fid m.kind_ m.flags m.start m.length m.proc_id
          m.client_id) (λ r. locked r.status) (λ _. locked 0)
          (server_state tree s.fids s.msize s.share) kept (g.H.Host.calls s.host).steady
          (by_open_fid is_open nothing (get s.fids m.fid)) refl
          (server_state tree s.fids s.msize s.share) refl (g.H.Host.calls s.host).faults
          (g.H.Host.calls s.host).faults (record { status = 0 }) tt
          (by_opened nothing is_open (get s.fids m.fid) c.in_ok-open_ino.field-0
          c.in_ok-open_ino.ensures).2 refl refl;
    }
