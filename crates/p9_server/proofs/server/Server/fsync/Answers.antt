-- What a fid that is open has written is kept.
use Rattle.std.proofs.Common.{refl, Ok, Result, ℕ}
use Rattle.std.specs.FinMap.{get}
use Rattle.p9_tmsg.specs.Messages.Message.{fsync}
use Rattle.p9_rmsg.specs.Replies.Reply.{fsync as synced}
use Rattle.fid_model.specs.Fids.{Fid, is_open}
use Rattle.fid_model.specs.FidCalls.{by_open_fid}
use Rattle.p9_server.specs.Steps.{server_state}
use Rattle.p9_server.proofs.HoldCounts.{kept_named}
use Rattle.p9_server.proofs.Asking.{unopened_step, by_opened, open_held, asked_step}
use Rattle.p9_server.proofs.server.Server.fsync.Goals as goal

abbrev nothing : Fid → Result (Unit {0}) ℕ
nothing f = Ok tt

pub returns-in_err-ino-clause-step : goal.returns-in_err-ino-clause-step
returns-in_err-ino-clause-step g c =
    let s = c.args.self.now in
    let tree = g.H.Host.tree s.host in
    let kept = kept_named (g.H.Host.holds s.host) s.fids s.sound.held tree
    (g.met.H.Host.stored s.host).kept in
    let m = c.args.m in
    unopened_step (fsync m.fid m.datasync) (λ _. synced) (λ _. synced)
    (server_state tree s.fids s.msize s.share) kept (g.H.Host.calls s.host).steady nothing m.fid
    (g.H.Host.calls s.host).faults
    c.from_residual.result c.in_err-ino.field-0.0 c.from_residual.ensures.1 is_open refl
    c.in_err-ino.ensures

pub sync-requires : goal.sync-requires
sync-requires g c = let s = c.args.self.now in open_held is_open (g.H.Host.holds s.host) s.fids
    s.sound.held c.args.m.fid c.in_ok-ino.ino c.in_ok-ino.ensures

pub returns-clause-step : goal.returns-clause-step
returns-clause-step g c =
    let s = c.args.self.now in
    let tree = g.H.Host.tree s.host in
    let kept = kept_named (g.H.Host.holds s.host) s.fids s.sound.held tree
    (g.met.H.Host.stored s.host).kept in
    let m = c.args.m in
    let e = c.sync.ensures in
    asked_step (fsync m.fid m.datasync) (λ _. synced) (server_state tree s.fids s.msize s.share)
    kept (g.H.Host.calls s.host).steady (by_open_fid is_open nothing (get s.fids m.fid)) refl
    refl
    (server_state (g.H.Host.tree c.sync.new.self) s.fids s.msize s.share)
    (λ j. server_state (e.tree j) s.fids s.msize s.share) (g.H.Host.calls s.host).faults
    (g.H.Host.calls c.sync.new.self).faults
    (Ok tt) (by_opened nothing is_open (get s.fids m.fid) c.in_ok-ino.ino c.in_ok-ino.ensures).2
    c.sync.result e.answer e.caused.cause
