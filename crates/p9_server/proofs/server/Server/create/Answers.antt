-- The fid of a directory names the new file, or all is as it was.
use Rattle.std.proofs.Common.{◌∙◌, ap}
use Rattle.std.specs.FinMap.{insert}
use Rattle.tree_host.specs.Calls.{Calls}
use Rattle.fid_model.specs.Fids.{Fid}
use Rattle.p9_server.proofs.HoldCounts.{kept_named}
use Rattle.p9_server.proofs.Showing.{named_held, stopped_step}
use Rattle.p9_server.proofs.Creations.{unknown_step, failed_step, created_step, dir_held}
use Rattle.p9_server.proofs.Creations.{moved_sound, moved_tree}
use Rattle.p9_server.proofs.server.Server.create.Goals as goal

pub returns-in_err-dir-clause-step : goal.returns-in_err-dir-clause-step
returns-in_err-dir-clause-step g c gid =
    let s = c.args.self.now in
    let tree = g.H.Host.tree s.host in
    let kept = kept_named (g.H.Host.holds s.host) s.fids s.sound.held tree
    (g.met.H.Host.stored s.host).kept in
    stopped_step c.from_residual.result c.in_err-dir.field-0.0 c.from_residual.ensures.1
    (unknown_step tree s.fids s.msize s.share c.args.fid c.args.name.now c.args.flags c.args.mode gid
    kept (g.H.Host.calls s.host).steady (g.H.Host.calls s.host).faults c.in_err-dir.field-0.0
    c.in_err-dir.ensures)

pub create_file-requires : goal.create_file-requires
create_file-requires g c = let s = c.args.self.now in record {
  held = named_held (g.H.Host.holds s.host) s.fids s.sound.held c.args.fid c.in_ok-dir.dir
      c.in_ok-dir.ensures;
}

pub returns-in_err-attr-clause-step : goal.returns-in_err-attr-clause-step
returns-in_err-attr-clause-step g c gid =
    let s = c.args.self.now in
    let h = c.create_file.new.host in
    let e = c.in_err-attr.ensures in
    let tree = g.H.Host.tree s.host in
    let kept = kept_named (g.H.Host.holds s.host) s.fids s.sound.held tree
    (g.met.H.Host.stored s.host).kept in
    stopped_step c.from_residual-in_err-attr.result c.in_err-attr.field-0.0 c.from_residual-in_err-attr.ensures.1
    (failed_step tree s.fids s.msize s.share c.args.fid c.args.name.now c.args.flags c.args.mode gid
    kept (g.H.Host.calls s.host).steady c.in_ok-dir.dir c.in_ok-dir.ensures (g.H.Host.tree h)
    (g.H.Host.calls s.host).faults (g.H.Host.calls h).faults
    (g.met.H.Host.good s.host) c.in_err-attr.field-0.0 e.answer e.cause)

pub release-requires : goal.release-requires
release-requires g c =
    let s = c.args.self.now in
    dir_held (g.H.Host.holds s.host) s.fids s.msize s.share s.sound c.args.fid c.in_ok-dir.dir
    c.in_ok-attr.attr.ino c.args.flags c.in_ok-dir.ensures
    (g.H.Host.holds c.create_file.new.host) c.in_ok-attr.ensures.held
    (named_held (g.H.Host.holds s.host) s.fids s.sound.held c.args.fid c.in_ok-dir.dir c.in_ok-dir.ensures)

pub invariant_of-self-2 : goal.invariant_of-self-2
invariant_of-self-2 g c =
    let s = c.args.self.now in
    record {
      sound = moved_sound (g.H.Host.holds s.host) s.fids s.msize s.share s.sound c.args.fid
          c.in_ok-dir.dir c.in_ok-attr.attr.ino c.args.flags c.in_ok-dir.ensures
          (g.H.Host.holds c.create_file.new.host) c.in_ok-attr.ensures.held
          (dir_held (g.H.Host.holds s.host) s.fids s.msize s.share s.sound c.args.fid c.in_ok-dir.dir
          c.in_ok-attr.attr.ino c.args.flags c.in_ok-dir.ensures
          (g.H.Host.holds c.create_file.new.host) c.in_ok-attr.ensures.held
          (named_held (g.H.Host.holds s.host) s.fids s.sound.held c.args.fid c.in_ok-dir.dir
          c.in_ok-dir.ensures))
          (g.H.Host.holds c.release.new.self) c.release.ensures.holds c.replace.new.self
          (c.replace.ensures ∙ ap (λ (f : Fid). insert s.fids c.args.fid f) c.opened.ensures);
    }

pub returns-clause-step : goal.returns-clause-step
returns-clause-step g c gid =
    let s = c.args.self.now in
    let h = c.create_file.new.host in
    let n = c.release.new.self in
    let e = c.in_ok-attr.ensures in
    let tree = g.H.Host.tree s.host in
    let kept = kept_named (g.H.Host.holds s.host) s.fids s.sound.held tree
    (g.met.H.Host.stored s.host).kept in
    let fids_are = c.replace.ensures ∙ ap (λ (f : Fid). insert s.fids c.args.fid f) c.opened.ensures
    in
    created_step tree s.fids s.msize s.share c.args.fid c.args.name.now c.args.flags c.args.mode gid
    kept (g.H.Host.calls s.host).steady c.in_ok-dir.dir c.in_ok-dir.ensures (g.H.Host.tree h)
    (g.H.Host.calls s.host).faults (g.H.Host.calls n).faults
    c.qid_of.result c.in_ok-attr.attr e.answer c.qid_of.ensures c.replace.new.self fids_are
    (g.H.Host.tree n)
    (moved_tree (g.H.Host.holds s.host) s.fids s.msize s.share s.sound c.args.fid c.in_ok-dir.dir
    c.in_ok-attr.attr.ino c.args.flags c.in_ok-dir.ensures (g.H.Host.holds h) e.held
    (dir_held (g.H.Host.holds s.host) s.fids s.msize s.share s.sound c.args.fid c.in_ok-dir.dir
    c.in_ok-attr.attr.ino c.args.flags c.in_ok-dir.ensures (g.H.Host.holds h) e.held
    (named_held (g.H.Host.holds s.host) s.fids s.sound.held c.args.fid c.in_ok-dir.dir
    c.in_ok-dir.ensures))
    (g.H.Host.holds n) c.release.ensures.holds c.replace.new.self fids_are (g.H.Host.tree h)
    (g.H.Host.tree n) c.release.ensures.tree)
    (ap (λ (k : Calls). k.faults) c.release.ensures.calls ∙ e.cause.counted)
