-- The new fid names what the names lead to, or all is as it was.
use Rattle.tree_host.specs.Calls.{Calls}
use Rattle.std.proofs.Common.{◌∙◌, ap, sym, subst, Vec}
use Rattle.tree_model.specs.Tree.{Tree, keep}
use Rattle.tree_model.specs.Sound.{IsKept}
use Rattle.fid_model.specs.Fids.{is_held}
use Rattle.p9_server.proofs.HoldCounts.{kept_named}
use Rattle.p9_server.proofs.NamedFids.{sound_room, sound_with, named_few}
use Rattle.p9_server.proofs.WalkSteps.{start_held, start_room, walk_unstarted, walk_stopped}
use Rattle.p9_server.proofs.WalkSteps.{walk_no_memory, walk_unstarted_memory}
use Rattle.tree_model.specs.declared.attributes.HostError.TheVariants.{NoMemory}
use Rattle.p9_server.proofs.Showing.{stopped_step}
use Rattle.p9_server.proofs.server.Server.walk.Goals as goal

pub returns-in-Err-clause-step : goal.returns-in-Err-clause-step
returns-in-Err-clause-step g c =
    let s = c.args.self.now in
    let tree = g.H.Host.tree s.host in
    let kept = kept_named (g.H.Host.holds s.host) s.fids s.sound.held tree
    (g.met.H.Host.stored s.host).kept in
    walk_unstarted (λ (v : Vec _ _). v.items) tree s.fids s.msize s.share c.args.fid
    c.args.newfid c.args.names.now kept (g.H.Host.calls s.host).steady c.in-Err.e
    (g.H.Host.calls s.host).faults c.in-Err.ensures

pub returns-in_err-qids-clause-step : goal.returns-in_err-qids-clause-step
returns-in_err-qids-clause-step g c =
    let s = c.args.self.now in
    let tree = g.H.Host.tree s.host in
    let kept = kept_named (g.H.Host.holds s.host) s.fids s.sound.held tree
    (g.met.H.Host.stored s.host).kept in
    stopped_step c.from_residual.result NoMemory c.from_residual.ensures.1
    (walk_unstarted_memory (λ (v : Vec _ _). v.items) tree s.fids s.msize s.share c.args.fid
    c.args.newfid c.args.names.now kept (g.H.Host.calls s.host).steady
    (g.H.Host.calls s.host).faults)

pub reach-requires-clause-held : goal.reach-requires-clause-held
reach-requires-clause-held g c =
    let s = c.args.self.now in
    start_held s.fids s.share.limit c.args.fid c.args.newfid _ c.in-Ok.start c.in-Ok.ensures
    (g.H.Host.holds s.host) s.sound.held

pub reach-requires-clause-room : goal.reach-requires-clause-room
reach-requires-clause-room g c = let s = c.args.self.now in sound_room (g.H.Host.holds s.host)
    s.fids s.msize s.share s.sound

pub returns-in-Err-reach-clause-step : goal.returns-in-Err-reach-clause-step
returns-in-Err-reach-clause-step g c =
    let s = c.args.self.now in
    let tree = g.H.Host.tree s.host in
    let kept = kept_named (g.H.Host.holds s.host) s.fids s.sound.held tree
    (g.met.H.Host.stored s.host).kept in
    let e = c.in-Err-reach.ensures in
    walk_stopped (λ (v : Vec _ _). v.items) tree s.fids s.msize s.share c.args.fid
    c.args.newfid c.args.names.now kept (g.H.Host.calls s.host).steady c.in-Ok.start
    c.in-Ok.ensures
    (g.H.Host.tree c.reach.new.host) (g.H.Host.calls s.host).faults
    (g.H.Host.calls c.reach.new.host).faults c.reach.new.qids e.tree c.in-Err-reach.e
    c.told_so_far.result c.told_so_far.ensures.told c.told_so_far.ensures.error e.answer e.cause

pub name_by_fid-requires-clause-kept : goal.name_by_fid-requires-clause-kept
name_by_fid-requires-clause-kept g c =
    let s = c.args.self.now in
    subst (λ (t : Tree). IsKept t.records (is_held s.fids)) (sym c.in-Ok-reach.ensures.tree)
    (kept_named (g.H.Host.holds s.host) s.fids s.sound.held (g.H.Host.tree s.host)
    (g.met.H.Host.stored s.host).kept)

pub invariant_of-self-2 : goal.invariant_of-self-2
invariant_of-self-2 g c =
    let s = c.args.self.now in
    let e = c.name_by_fid.ensures in
    record {
      sound = sound_with (g.H.Host.holds s.host) s.fids s.msize s.share s.sound
          (g.H.Host.holds c.name_by_fid.new.host) c.name_by_fid.new.fids e.held
          (named_few (g.H.Host.holds s.host) s.fids s.msize s.share s.sound c.args.newfid
          c.in-Ok-reach.at c.name_by_fid.new.fids
          (start_room s.fids s.share.limit c.args.fid c.args.newfid _ c.in-Ok.start
          c.in-Ok.ensures) c.name_by_fid.result e.fids e.memory);
    }

pub returns-in_err-name_by_fid-clause-step : goal.returns-in_err-name_by_fid-clause-step
returns-in_err-name_by_fid-clause-step g c =
    let s = c.args.self.now in
    let tree = g.H.Host.tree s.host in
    let kept = kept_named (g.H.Host.holds s.host) s.fids s.sound.held tree
    (g.met.H.Host.stored s.host).kept in
    let w = c.in-Ok-reach.ensures in
    let e = c.in_err-name_by_fid.ensures in
    stopped_step c.from_residual-in_err-name_by_fid.result c.in_err-name_by_fid.field-0.0 c.from_residual-in_err-name_by_fid.ensures.1
    (walk_no_memory (λ (v : Vec _ _). v.items) tree s.fids s.msize s.share c.args.fid
    c.args.newfid c.args.names.now kept (g.H.Host.calls s.host).steady c.in-Ok.start
    c.in-Ok.ensures
    (g.H.Host.tree c.name_by_fid.new.host) (g.H.Host.calls s.host).faults
    (g.H.Host.calls c.name_by_fid.new.host).faults c.name_by_fid.new.fids
    (e.tree ∙ ap (keep (is_held c.name_by_fid.new.fids)) w.tree)
    (ap (λ (k : Calls). k.faults) e.calls ∙ w.cause.counted) c.in_err-name_by_fid.field-0.0 e.memory.0
    e.memory.1)
