-- A directory is made, or all is as it was.
use Rattle.std.proofs.Common.{refl, ap}
use Rattle.tree_model.specs.declared.attributes.Attr.{Attr}
use Rattle.tree_model.specs.Attributes.{qid_of as attr_qid}
use Rattle.tree_model.specs.Creating.{mkdir_of}
use Rattle.p9_wire.specs.Qids.{qid_of}
use Rattle.p9_wire.specs.declared.qid.Qid.{Qid}
use Rattle.p9_tmsg.specs.Messages.Message.{mkdir}
use Rattle.p9_rmsg.specs.Replies.{Reply}
use Rattle.p9_rmsg.specs.Replies.Reply.{mkdir as made}
use Rattle.fid_model.specs.TreeCalls.{tree_answer}
use Rattle.fid_model.specs.Directories.{mkdir_told}
use Rattle.p9_server.specs.Steps.{server_state}
use Rattle.p9_server.proofs.HoldCounts.{kept_named}
use Rattle.p9_server.proofs.Showing.{named_held, stopped_step}
use Rattle.p9_server.proofs.TreeSteps.{at_named, at_unnamed, done_step, failed_step, good_name}
use Rattle.p9_server.proofs.TreeSteps.{kept_after, refused_step}
use Rattle.p9_server.proofs.server.Server.make_directory.Goals as goal

abbrev makes : Attr → Reply
makes a = made (attr_qid a)

abbrev told_qid : Qid → Reply
told_qid q = made (qid_of q)

pub returns-in_err-dir-clause-step : goal.returns-in_err-dir-clause-step
returns-in_err-dir-clause-step g c gid =
    let s = c.args.self.now in
    let tree = g.H.Host.tree s.host in
    let a = c.args in
    stopped_step c.from_residual.result c.in_err-dir.field-0.0 c.from_residual.ensures.1
    (refused_step (mkdir a.dfid a.name.now a.mode gid) makes told_qid tree s.fids s.msize s.share
    (g.H.Host.calls s.host).steady (mkdir_told (server_state tree s.fids s.msize s.share) a.dfid
    a.name.now a.mode) refl
    (kept_named (g.H.Host.holds s.host) s.fids s.sound.held tree (g.met.H.Host.stored s.host).kept)
    c.in_err-dir.field-0.0
    (at_unnamed s.fids a.dfid (λ dir. mkdir_of tree dir a.name.now a.mode) a.name.now c.in_err-dir.field-0.0
    c.in_err-dir.ensures) (g.H.Host.calls s.host).faults)

pub mkdir-requires : goal.mkdir-requires
mkdir-requires g c =
    let s = c.args.self.now in
    let good = good_name s.fids c.args.dfid c.args.name.now c.in_ok-dir.dir c.in_ok-dir.ensures in
    record {
      held = named_held (g.H.Host.holds s.host) s.fids s.sound.held c.args.dfid c.in_ok-dir.dir
          good.1;
      named = good.0;
    }

pub returns-clause-step : goal.returns-clause-step
returns-clause-step g c gid =
    let s = c.args.self.now in
    let n = c.mkdir.new.self in
    let tree = g.H.Host.tree s.host in
    let a = c.args in
    let e = c.in_ok-attr.ensures in
    let before = server_state tree s.fids s.msize s.share in
    done_step (mkdir a.dfid a.name.now a.mode gid) makes told_qid tree s.fids s.msize s.share
    (g.H.Host.calls s.host).steady (mkdir_of tree c.in_ok-dir.dir a.name.now a.mode)
    (ap (tree_answer before makes) (at_named s.fids a.dfid
    (λ dir. mkdir_of tree dir a.name.now a.mode) a.name.now c.in_ok-dir.dir c.in_ok-dir.ensures))
    (kept_named (g.H.Host.holds s.host) s.fids s.sound.held tree (g.met.H.Host.stored s.host).kept)
    refl (g.H.Host.tree n) (g.H.Host.calls s.host).faults (g.H.Host.calls n).faults
    (kept_after (g.H.Host.holds s.host) (g.H.Host.holds n) e.holds s.fids s.sound.held
    (g.H.Host.tree n) (g.met.H.Host.stored n).kept)
    c.in_ok-attr.attr c.qid_of.result e.leaves (ap made c.qid_of.ensures) e.caused.cause.counted

pub returns-in_err-attr-clause-step : goal.returns-in_err-attr-clause-step
returns-in_err-attr-clause-step g c gid =
    let s = c.args.self.now in
    let n = c.mkdir.new.self in
    let tree = g.H.Host.tree s.host in
    let a = c.args in
    let e = c.in_err-attr.ensures in
    let before = server_state tree s.fids s.msize s.share in
    stopped_step c.from_residual-in_err-attr.result c.in_err-attr.field-0.0 c.from_residual-in_err-attr.ensures.1
    (failed_step (mkdir a.dfid a.name.now a.mode gid) makes told_qid tree s.fids s.msize s.share
    (g.H.Host.calls s.host).steady (mkdir_of tree c.in_ok-dir.dir a.name.now a.mode)
    (ap (tree_answer before makes) (at_named s.fids a.dfid
    (λ dir. mkdir_of tree dir a.name.now a.mode) a.name.now c.in_ok-dir.dir c.in_ok-dir.ensures))
    (kept_named (g.H.Host.holds s.host) s.fids s.sound.held tree (g.met.H.Host.stored s.host).kept)
    refl (g.H.Host.tree n) (g.H.Host.calls s.host).faults (g.H.Host.calls n).faults
    c.in_err-attr.field-0.0 e.leaves e.caused.cause)
