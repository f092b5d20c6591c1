-- What a name of a directory names, with its hold, or all as it was.
use Rattle.p9_server.proofs.Taking.{took_positive, took_tree, took_held, took_refused}
use Rattle.p9_server.proofs.paths.step_to.Goals as goal

pub told_of-requires : goal.told_of-requires
told_of-requires g c =
    let h = c.args.host.now in
    took_positive (g.H.Host.tree h) (g.H.Host.tree c.find.new.host)
    (g.H.Host.tree c.find.new.host) (g.H.Host.holds h) (g.H.Host.holds c.find.new.host)
    (g.H.Host.holds h) c.in_ok-ino.ino c.in_ok-ino.ensures.tree c.in_ok-ino.ensures.held

pub returns-clause-tree : goal.returns-clause-tree
returns-clause-tree g c =
    let h = c.args.host.now in
    let e = c.told_of.ensures in
    took_tree (g.H.Host.tree h) (g.H.Host.tree c.find.new.host) (g.H.Host.tree c.told_of.new.host)
    (g.H.Host.holds h) (g.H.Host.holds c.find.new.host) (g.H.Host.holds c.told_of.new.host)
    c.in_ok-ino.ino c.in_ok-ino.ensures.tree c.in_ok-ino.ensures.held
    c.told_of.result (g.met.H.Host.stored h).kept e.tree e.released e.kept

pub returns-clause-held : goal.returns-clause-held
returns-clause-held g c =
    let h = c.args.host.now in
    let e = c.told_of.ensures in
    took_held (g.H.Host.tree h) (g.H.Host.tree c.find.new.host) (g.H.Host.tree c.told_of.new.host)
    (g.H.Host.holds h) (g.H.Host.holds c.find.new.host) (g.H.Host.holds c.told_of.new.host)
    c.in_ok-ino.ino c.in_ok-ino.ensures.tree c.in_ok-ino.ensures.held
    c.told_of.result e.held e.told

pub returns-clause-refused : goal.returns-clause-refused
returns-clause-refused g c =
    let h = c.args.host.now in
    let e = c.told_of.ensures in
    took_refused (g.H.Host.tree h) (g.H.Host.tree c.find.new.host)
    (g.H.Host.tree c.told_of.new.host) (g.H.Host.holds h) (g.H.Host.holds c.find.new.host)
    (g.H.Host.holds c.told_of.new.host) c.in_ok-ino.ino c.in_ok-ino.ensures.tree c.in_ok-ino.ensures.held
    c.told_of.result e.released
