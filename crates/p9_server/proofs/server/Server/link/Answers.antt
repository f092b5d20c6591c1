-- A file gets one more name, or all is as it was.
use Rattle.std.proofs.Common.{refl, ap, ◌∙◌}
use Rattle.tree_model.specs.Creating.{link_of}
use Rattle.p9_tmsg.specs.Messages.Message.{link}
use Rattle.p9_rmsg.specs.Replies.{Reply}
use Rattle.p9_rmsg.specs.Replies.Reply.{link as linked}
use Rattle.std.specs.FinMap.{get}
use Rattle.fid_model.specs.TreeCalls.{at_fid, tree_answer, unless_fault}
use Rattle.fid_model.specs.Directories.{link_told}
use Rattle.p9_server.specs.Steps.{server_state}
use Rattle.p9_server.proofs.HoldCounts.{kept_named}
use Rattle.p9_server.proofs.Showing.{named_held, stopped_step}
use Rattle.p9_server.proofs.TreeSteps.{at_known, at_named, at_unknown, at_unnamed, good_name}
use Rattle.p9_server.proofs.TreeSteps.{kept_after, passed_step, refused_step}
use Rattle.p9_server.proofs.server.Server.link.Goals as goal

abbrev links : Unit {0} → Reply
links u = linked

pub returns-in_err-ino-clause-step : goal.returns-in_err-ino-clause-step
returns-in_err-ino-clause-step g c =
    let s = c.args.self.now in
    let tree = g.H.Host.tree s.host in
    let a = c.args in
    stopped_step c.from_residual.result c.in_err-ino.field-0.0 c.from_residual.ensures.1
    (refused_step (link a.dfid a.fid a.name.now) links links tree s.fids s.msize s.share
    (g.H.Host.calls s.host).steady (link_told (server_state tree s.fids s.msize s.share) a.dfid
    a.fid a.name.now) refl
    (kept_named (g.H.Host.holds s.host) s.fids s.sound.held tree (g.met.H.Host.stored s.host).kept)
    c.in_err-ino.field-0.0
    (at_unknown s.fids a.fid (λ ino. at_fid (get s.fids a.dfid)
    (λ dir. unless_fault a.name.now (link_of tree ino dir a.name.now))) c.in_err-ino.field-0.0
    c.in_err-ino.ensures) (g.H.Host.calls s.host).faults)

pub returns-in_err-dir-clause-step : goal.returns-in_err-dir-clause-step
returns-in_err-dir-clause-step g c =
    let s = c.args.self.now in
    let tree = g.H.Host.tree s.host in
    let a = c.args in
    let before = server_state tree s.fids s.msize s.share in
    stopped_step c.from_residual-in_err-dir.result c.in_err-dir.field-0.0 c.from_residual-in_err-dir.ensures.1
    (refused_step (link a.dfid a.fid a.name.now) links links tree s.fids s.msize s.share
    (g.H.Host.calls s.host).steady (at_fid (get s.fids a.dfid)
    (λ dir. unless_fault a.name.now (link_of tree c.in_ok-ino.ino dir a.name.now)))
    (ap (tree_answer before links) (at_known s.fids a.fid
    (λ ino. at_fid (get s.fids a.dfid) (λ dir. unless_fault a.name.now
    (link_of tree ino dir a.name.now))) c.in_ok-ino.ino c.in_ok-ino.ensures))
    (kept_named (g.H.Host.holds s.host) s.fids s.sound.held tree (g.met.H.Host.stored s.host).kept)
    c.in_err-dir.field-0.0
    (at_unnamed s.fids a.dfid (λ dir. link_of tree c.in_ok-ino.ino dir a.name.now) a.name.now
    c.in_err-dir.field-0.0 c.in_err-dir.ensures) (g.H.Host.calls s.host).faults)

pub link-requires : goal.link-requires
link-requires g c =
    let s = c.args.self.now in
    let good = good_name s.fids c.args.dfid c.args.name.now c.in_ok-dir.dir
    c.in_ok-dir.ensures in
    record {
      held = named_held (g.H.Host.holds s.host) s.fids s.sound.held c.args.fid c.in_ok-ino.ino
          c.in_ok-ino.ensures;
      above = named_held (g.H.Host.holds s.host) s.fids s.sound.held c.args.dfid c.in_ok-dir.dir
          good.1;
      named = good.0;
    }

pub returns-clause-step : goal.returns-clause-step
returns-clause-step g c =
    let s = c.args.self.now in
    let n = c.link.new.self in
    let tree = g.H.Host.tree s.host in
    let a = c.args in
    let e = c.link.ensures in
    let before = server_state tree s.fids s.msize s.share in
    passed_step (link a.dfid a.fid a.name.now) links tree s.fids s.msize s.share
    (g.H.Host.calls s.host).steady (link_of tree c.in_ok-ino.ino c.in_ok-dir.dir a.name.now)
    (ap (tree_answer before links) (at_known s.fids a.fid
    (λ ino. at_fid (get s.fids a.dfid) (λ dir. unless_fault a.name.now
    (link_of tree ino dir a.name.now))) c.in_ok-ino.ino c.in_ok-ino.ensures
    ∙ at_named s.fids a.dfid (λ dir. link_of tree c.in_ok-ino.ino dir a.name.now) a.name.now
    c.in_ok-dir.dir c.in_ok-dir.ensures))
    (kept_named (g.H.Host.holds s.host) s.fids s.sound.held tree (g.met.H.Host.stored s.host).kept)
    refl (g.H.Host.tree n) (g.H.Host.calls s.host).faults (g.H.Host.calls n).faults
    (kept_after (g.H.Host.holds s.host) (g.H.Host.holds n) e.holds s.fids s.sound.held
    (g.H.Host.tree n) (g.met.H.Host.stored n).kept)
    c.link.result e.leaves e.caused.cause
