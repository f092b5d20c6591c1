-- The fid names the inode, and what it named before is let go; or all is as it was.
use Rattle.p9_server.proofs.HoldCounts.{keep_named}
use Rattle.p9_server.proofs.NamedFids.{untaken, new_named, new_tree, old_held, old_named}
use Rattle.std.proofs.Common.{◌∙◌, ap, sym, subst}
use Rattle.std.specs.FinMap as map
use Rattle.fid_model.specs.Fids.{Fids}
use Rattle.p9_server.specs.Holding.{AreFids}
use Rattle.p9_server.proofs.fids.name_by_fid.Goals as goal

pub returns-in-Err-clause-held : goal.returns-in-Err-clause-held
returns-in-Err-clause-held g c =
    subst (λ (f : Fids). AreFids (g.H.Host.holds c.release.new.self) f) (sym c.in-Err.ensures.err)
    (untaken (g.H.Host.holds c.args.host.now) c.args.fids.now c.args.fid c.args.ino c.requires.held
    (g.H.Host.holds c.release.new.self) c.release.ensures.holds)

pub returns-in-Err-clause-tree : goal.returns-in-Err-clause-tree
returns-in-Err-clause-tree g c =
    c.release.ensures.tree
    ∙ keep_named (g.H.Host.holds c.release.new.self) c.insert.new.self
    (subst (λ (f : Fids). AreFids (g.H.Host.holds c.release.new.self) f) (sym c.in-Err.ensures.err)
    (untaken (g.H.Host.holds c.args.host.now) c.args.fids.now c.args.fid c.args.ino c.requires.held
    (g.H.Host.holds c.release.new.self) c.release.ensures.holds))
    (g.H.Host.tree c.args.host.now)

pub release-requires-in-Some : goal.release-requires-in-Some
release-requires-in-Some g c =
    old_held (g.H.Host.holds c.args.host.now) c.args.fids.now c.args.fid c.args.ino c.requires.held
    c.insert.new.self (c.in-Ok.ensures.ok
    ∙ ap (map.insert c.args.fids.now c.args.fid) c.closed.ensures) c.in-Some.old
    c.in-Some.ensures

pub returns-in-Some-clause-held : goal.returns-in-Some-clause-held
returns-in-Some-clause-held g c =
    old_named (g.H.Host.holds c.args.host.now) c.args.fids.now c.args.fid c.args.ino c.requires.held
    c.insert.new.self (c.in-Ok.ensures.ok
    ∙ ap (map.insert c.args.fids.now c.args.fid) c.closed.ensures) c.in-Some.old
    c.in-Some.ensures (g.H.Host.holds c.release-in-Some.new.self)
    c.release-in-Some.ensures.holds

pub returns-in-Some-clause-tree : goal.returns-in-Some-clause-tree
returns-in-Some-clause-tree g c =
    c.release-in-Some.ensures.tree
    ∙ keep_named (g.H.Host.holds c.release-in-Some.new.self) c.insert.new.self
    (old_named (g.H.Host.holds c.args.host.now) c.args.fids.now c.args.fid c.args.ino
    c.requires.held c.insert.new.self (c.in-Ok.ensures.ok
    ∙ ap (map.insert c.args.fids.now c.args.fid) c.closed.ensures) c.in-Some.old
    c.in-Some.ensures (g.H.Host.holds c.release-in-Some.new.self)
    c.release-in-Some.ensures.holds)
    (g.H.Host.tree c.args.host.now)

pub returns-in-None-clause-held : goal.returns-in-None-clause-held
returns-in-None-clause-held g c =
    new_named (g.H.Host.holds c.args.host.now) c.args.fids.now c.args.fid c.args.ino c.requires.held
    c.insert.new.self (c.in-Ok.ensures.ok
    ∙ ap (map.insert c.args.fids.now c.args.fid) c.closed.ensures) c.in-None.ensures

pub returns-in-None-clause-tree : goal.returns-in-None-clause-tree
returns-in-None-clause-tree g c =
    new_tree (g.H.Host.holds c.args.host.now) c.args.fids.now c.args.fid c.args.ino c.requires.held
    c.insert.new.self (c.in-Ok.ensures.ok
    ∙ ap (map.insert c.args.fids.now c.args.fid) c.closed.ensures) c.in-None.ensures
    (g.H.Host.tree c.args.host.now) c.requires.kept
