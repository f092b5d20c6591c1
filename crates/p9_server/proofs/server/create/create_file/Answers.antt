-- A new file with its hold, or all is as it was.
use Rattle.std.proofs.Common.{sym, ap, ◌∙◌}
use Rattle.tree_model.specs.Tree.{Tree, body_at, is_directory_at}
use Rattle.tree_model.specs.Creating.{create_of}
use Rattle.tree_host.specs.Holds.{Holds, held_more}
use Rattle.p9_server.proofs.HoldCounts.{more_counts_of, more_held}
use Rattle.p9_server.proofs.Taking.{took_held, took_refused}
use Rattle.p9_server.proofs.Created.{created_told, still_created, fine_name}
use Rattle.p9_server.proofs.server.create.create_file.Goals as goal

pub told_of-requires : goal.told_of-requires
told_of-requires g c =
    let w = c.check_new_file.new.host in
    let h = c.create.new.self in
    more_held (g.H.Host.holds w) (g.H.Host.holds h) c.in_ok-ino.ino
    (more_counts_of (g.H.Host.holds w) (g.H.Host.holds h) c.in_ok-ino.ino
    c.in_ok-ino.ensures.held)

pub returns-clause-answer : goal.returns-clause-answer
returns-clause-answer g c =
    let h = c.args.host.now in
    let w = c.check_new_file.new.host in
    let n = c.create.new.self in
    let l = c.told_of.new.host in
    let o = c.in_ok-check_new_file.ensures in
    let m = c.in_ok-ino.ensures in
    let e = c.told_of.ensures in
    let tree = g.H.Host.tree h in
    created_told tree c.args.dir c.args.name.now c.args.flags c.args.mode o.answer.exactly
    (g.H.Host.tree w) (g.H.Host.tree n) o.tree c.in_ok-ino.ino m.leaves (g.H.Host.tree l)
    (still_created tree (g.H.Host.tree n) (g.H.Host.tree l) (g.H.Host.holds h) (g.H.Host.holds n)
    (g.H.Host.holds l) c.in_ok-ino.ino
    (m.held ∙ ap (λ (k : Holds). held_more k c.in_ok-ino.ino) o.holds) c.args.dir
    c.args.name.now c.args.mode (g.met.H.Host.good h)
    (fine_name (is_directory_at (body_at tree.records c.args.dir)) c.args.name.now c.args.flags
    o.answer.exactly) (ap (λ (v : Tree). create_of v c.args.dir c.args.name.now c.args.mode)
    (sym o.tree) ∙ m.leaves.exactly) (g.met.H.Host.stored h).kept
    c.told_of.result e.tree e.released e.kept)
    c.told_of.result e.told e.error

pub returns-clause-held : goal.returns-clause-held
returns-clause-held g c =
    let h = c.args.host.now in
    let n = c.create.new.self in
    let m = c.in_ok-ino.ensures in
    let e = c.told_of.ensures in
    took_held (g.H.Host.tree n) (g.H.Host.tree n) (g.H.Host.tree c.told_of.new.host)
    (g.H.Host.holds h) (g.H.Host.holds n) (g.H.Host.holds c.told_of.new.host) c.in_ok-ino.ino
    (λ j. g.H.Host.tree n) (m.held ∙ ap (λ (k : Holds). held_more k c.in_ok-ino.ino)
    c.in_ok-check_new_file.ensures.holds)
    c.told_of.result e.held e.told

pub returns-clause-refused : goal.returns-clause-refused
returns-clause-refused g c =
    let h = c.args.host.now in
    let n = c.create.new.self in
    let m = c.in_ok-ino.ensures in
    took_refused (g.H.Host.tree n) (g.H.Host.tree n) (g.H.Host.tree c.told_of.new.host)
    (g.H.Host.holds h) (g.H.Host.holds n) (g.H.Host.holds c.told_of.new.host) c.in_ok-ino.ino
    (λ j. g.H.Host.tree n) (m.held ∙ ap (λ (k : Holds). held_more k c.in_ok-ino.ino)
    c.in_ok-check_new_file.ensures.holds)
    c.told_of.result c.told_of.ensures.released
