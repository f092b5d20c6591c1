-- The root of the share has a new fid, or all is as it was.
use Rattle.tree_host.specs.Calls.{Calls}
use Rattle.std.proofs.Common.{◌∙◌, ap, sym, subst, Ok, Err, List, ℕ}
use Rattle.tree_model.specs.Tree.{Tree, keep}
use Rattle.tree_model.specs.Sound.{IsKept}
use Rattle.tree_model.specs.Finding.{root_of}
use Rattle.fid_model.specs.Fids.{is_held}
use Rattle.p9_server.specs.Walking.{Finds}
use Rattle.p9_server.proofs.HoldCounts.{kept_named}
use Rattle.p9_server.proofs.NamedFids.{sound_roomy, sound_with, named_few}
use Rattle.p9_server.proofs.Attaching.{attach_unknown, attach_room, attach_failed, attach_no_memory}
use Rattle.p9_server.proofs.Showing.{stopped_step}
use Rattle.p9_server.proofs.server.Server.attach.Goals as goal

pub returns-in-Some-clause-step : goal.returns-in-Some-clause-step
returns-in-Some-clause-step g c =
    let s = c.args.self.now in
    let tree = g.H.Host.tree s.host in
    let kept = kept_named (g.H.Host.holds s.host) s.fids s.sound.held tree
    (g.met.H.Host.stored s.host).kept in
    attach_unknown tree s.fids s.msize s.share c.args.fid kept (g.H.Host.calls s.host).steady
    c.in-Some.e (g.H.Host.calls s.host).faults c.in-Some.ensures

pub attach_path-requires-clause-room : goal.attach_path-requires-clause-room
attach_path-requires-clause-room g c = let s =
    c.args.self.now in sound_roomy (g.H.Host.holds s.host) s.fids s.msize s.share s.sound

pub returns-in_err-attr-clause-step : goal.returns-in_err-attr-clause-step
returns-in_err-attr-clause-step g c =
    let s = c.args.self.now in
    let tree = g.H.Host.tree s.host in
    let kept = kept_named (g.H.Host.holds s.host) s.fids s.sound.held tree
    (g.met.H.Host.stored s.host).kept in
    let allowed = sym c.in_default.is ∙ c.attach_refused.ensures in
    let e = c.in_err-attr.ensures in
    stopped_step c.from_residual.result c.in_err-attr.field-0.0 c.from_residual.ensures.1
    (attach_failed tree s.fids s.msize s.share c.args.fid kept (g.H.Host.calls s.host).steady allowed
    (g.H.Host.tree c.attach_path.new.host) (g.H.Host.calls s.host).faults
    (g.H.Host.calls c.attach_path.new.host).faults e.tree c.in_err-attr.field-0.0
    (subst (λ (names : List (List ℕ)). Finds tree (root_of tree names) (Err c.in_err-attr.field-0.0))
    c.root.ensures.root e.answer) e.cause)

pub name_by_fid-requires-clause-kept : goal.name_by_fid-requires-clause-kept
name_by_fid-requires-clause-kept g c =
    let s = c.args.self.now in
    subst (λ (t : Tree). IsKept t.records (is_held s.fids)) (sym c.in_ok-attr.ensures.tree)
    (kept_named (g.H.Host.holds s.host) s.fids s.sound.held (g.H.Host.tree s.host)
    (g.met.H.Host.stored s.host).kept)

pub invariant_of-self-2 : goal.invariant_of-self-2
invariant_of-self-2 g c =
    let s = c.args.self.now in
    let allowed = sym c.in_default.is ∙ c.attach_refused.ensures in
    let e = c.name_by_fid.ensures in
    record {
      sound = sound_with (g.H.Host.holds s.host) s.fids s.msize s.share s.sound
          (g.H.Host.holds c.name_by_fid.new.host) c.name_by_fid.new.fids e.held
          (named_few (g.H.Host.holds s.host) s.fids s.msize s.share s.sound c.args.fid
          c.in_ok-attr.attr.ino c.name_by_fid.new.fids
          (λ absent. attach_room s.fids s.share.limit c.args.fid allowed) c.name_by_fid.result
          e.fids e.memory);
    }

pub returns-in_err-name_by_fid-clause-step : goal.returns-in_err-name_by_fid-clause-step
returns-in_err-name_by_fid-clause-step g c =
    let s = c.args.self.now in
    let tree = g.H.Host.tree s.host in
    let kept = kept_named (g.H.Host.holds s.host) s.fids s.sound.held tree
    (g.met.H.Host.stored s.host).kept in
    let allowed = sym c.in_default.is ∙ c.attach_refused.ensures in
    let a = c.in_ok-attr.ensures in
    let e = c.in_err-name_by_fid.ensures in
    stopped_step c.from_residual-in_err-name_by_fid.result c.in_err-name_by_fid.field-0.0 c.from_residual-in_err-name_by_fid.ensures.1
    (attach_no_memory tree s.fids s.msize s.share c.args.fid kept (g.H.Host.calls s.host).steady
    allowed (g.H.Host.tree c.name_by_fid.new.host) (g.H.Host.calls s.host).faults
    (g.H.Host.calls c.name_by_fid.new.host).faults
    c.in_ok-attr.attr (subst (λ (names : List (List ℕ)). Finds tree (root_of tree names)
    (Ok c.in_ok-attr.attr)) c.root.ensures.root a.answer) c.name_by_fid.new.fids
    (e.tree ∙ ap (keep (is_held c.name_by_fid.new.fids)) a.tree)
    (ap (λ (k : Calls). k.faults) e.calls ∙ a.cause.counted) c.in_err-name_by_fid.field-0.0 e.memory.0
    e.memory.1)
