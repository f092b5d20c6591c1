-- Each fid that goes lets go of its hold.
use Rattle.std.proofs.Common.{◌<◌, ◌∙◌, ap, sym, refl, subst}
use Rattle.tree_host.specs.Holds.{hold_count, held_less}
use Rattle.fid_model.specs.Fids.{Fids}
use Rattle.p9_server.specs.Holding.{AreFids}
use Rattle.p9_server.proofs.Releasing.{releasing_none, next_held, releasing_more, fids_fall}
use Rattle.p9_server.proofs.Releasing.{released_holds}
use Rattle.p9_server.proofs.fids.release_all.Goals as goal

pub loop-state-init : goal.loop-state-init
loop-state-init g c =
    let h = c.args.host.now in
    record {
      left = releasing_none (g.H.Host.tree h) (g.H.Host.holds h) c.args.fids.now c.requires
          (g.met.H.Host.stored h).kept;
      calls = refl;
    }

pub release-requires : goal.release-requires
release-requires g c =
    let l = c.loop-state in
    subst (λ i. 0 < hold_count (g.H.Host.holds l.host) i) (sym c.ino.ensures)
    (next_held (g.H.Host.tree c.args.host.now) (g.H.Host.tree l.host) (g.H.Host.holds l.host) l.fids
    l.invariant.left c.in-Some.field-0-0 c.in-Some.state c.in-Some.ensures.value)

pub loop-state-smaller : goal.loop-state-smaller
loop-state-smaller g c =
    let l = c.loop-state in
    fids_fall (g.H.Host.tree c.args.host.now) (g.H.Host.tree l.host) (g.H.Host.holds l.host) l.fids
    l.invariant.left c.in-Some.field-0-0 c.in-Some.state c.in-Some.ensures.value
    c.pop_first.new.self c.in-Some.ensures.removed

pub loop-state-preserved : goal.loop-state-preserved
loop-state-preserved g c =
    let l = c.loop-state in
    let e = c.release.ensures in
    record {
      left = releasing_more (g.H.Host.tree c.args.host.now) (g.H.Host.tree l.host)
          (g.H.Host.holds l.host) l.fids l.invariant.left c.in-Some.field-0-0 c.in-Some.state
          c.in-Some.ensures.value
          (g.H.Host.holds c.release.new.self)
          (e.holds ∙ ap (held_less (g.H.Host.holds l.host)) c.ino.ensures) c.pop_first.new.self
          c.in-Some.ensures.removed (g.H.Host.tree c.release.new.self)
          (g.met.H.Host.good c.args.host.now) e.tree;
      calls = e.calls ∙ l.invariant.calls;
    }

pub returns-clause-holds : goal.returns-clause-holds
returns-clause-holds g c =
    let l = c.loop-state in
    released_holds (g.H.Host.holds l.host) (subst (λ (f : Fids). AreFids (g.H.Host.holds l.host) f)
    c.in_default.ensures.none.0 l.invariant.left.held) (g.met.H.Host.stored l.host).positive
