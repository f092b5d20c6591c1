-- How much the tree of a fid may have.
use Rattle.std.proofs.Common.{refl, Ok}
use Rattle.std.specs.FinMap.{get}
use Rattle.tree_model.specs.Attributes.{statfs_of}
use Rattle.p9_tmsg.specs.Messages.Message.{statfs}
use Rattle.fid_model.specs.FidCalls.{by_fid}
use Rattle.fid_model.specs.Files.{statfs_reply}
use Rattle.p9_server.specs.Steps.{server_state}
use Rattle.p9_server.proofs.HoldCounts.{kept_named}
use Rattle.p9_server.proofs.Showing.{named_held}
use Rattle.p9_server.proofs.Asking.{unknown_step, by_known, asked_step}
use Rattle.p9_server.proofs.server.Server.statfs.Goals as goal

pub returns-in_err-ino-clause-step : goal.returns-in_err-ino-clause-step
returns-in_err-ino-clause-step g c =
    let s = c.args.self.now in
    let tree = g.H.Host.tree s.host in
    let kept = kept_named (g.H.Host.holds s.host) s.fids s.sound.held tree
    (g.met.H.Host.stored s.host).kept in
    unknown_step (statfs c.args.fid) statfs_reply statfs_reply
    (server_state tree s.fids s.msize s.share) kept (g.H.Host.calls s.host).steady
    (λ f. Ok (statfs_of tree)) c.args.fid (g.H.Host.calls s.host).faults
    c.from_residual.result c.in_err-ino.field-0.0 c.from_residual.ensures.1 refl
    c.in_err-ino.ensures

pub statfs-requires : goal.statfs-requires
statfs-requires g c = let s = c.args.self.now in named_held (g.H.Host.holds s.host) s.fids
    s.sound.held c.args.fid c.in_ok-ino.ino c.in_ok-ino.ensures

pub returns-clause-step : goal.returns-clause-step
returns-clause-step g c =
    let s = c.args.self.now in
    let tree = g.H.Host.tree s.host in
    let kept = kept_named (g.H.Host.holds s.host) s.fids s.sound.held tree
    (g.met.H.Host.stored s.host).kept in
    let e = c.statfs.ensures in
    asked_step (statfs c.args.fid) statfs_reply (server_state tree s.fids s.msize s.share) kept
    (g.H.Host.calls s.host).steady (by_fid (λ f. Ok (statfs_of tree)) (get s.fids c.args.fid))
    refl refl
    (server_state (g.H.Host.tree c.statfs.new.self) s.fids s.msize s.share)
    (λ j. server_state (e.tree j) s.fids s.msize s.share) (g.H.Host.calls s.host).faults
    (g.H.Host.calls c.statfs.new.self).faults
    (Ok (statfs_of tree)) (by_known (λ f. Ok (statfs_of tree)) (get s.fids c.args.fid)
    c.in_ok-ino.ino c.in_ok-ino.ensures).2 c.statfs.result e.answer e.caused.cause
