-- What is told of an inode that was opened.
use Rattle.std.proofs.Common.{◌<◌, sym, subst, ◌∙◌, Ok}
use Rattle.tree_model.specs.Tree.{Tree}
use Rattle.tree_host.specs.Holds.{Holds, hold_count}
use Rattle.tree_host.specs.Host.{Leaves}
use Rattle.fid_model.specs.Answers.{emptied}
use Rattle.p9_server.proofs.Opening.{then_told}
use Rattle.p9_server.proofs.server.open.open_inode.Goals as goal

pub returns-clause-answer : goal.returns-clause-answer
returns-clause-answer g c =
    let h = c.args.host.now in
    let n = c.empty_where.new.host in
    let o = c.in_ok-open_check.ensures in
    let e = c.in_ok-empty_where.ensures in
    let s = c.stat.ensures in
    then_told (g.H.Host.tree h) (g.H.Host.tree n) c.args.ino c.args.flags o.answer.exactly
    (subst (λ (v : Tree). Leaves (emptied v c.args.ino c.args.flags) v (g.H.Host.tree n) (Ok tt))
    o.tree e.leaves)
    (g.H.Host.holds n) (g.met.H.Host.stored n).stored
    (subst (λ (k : Holds). 0 < hold_count k c.args.ino) (sym (e.holds ∙ o.holds)) c.requires)
    (g.H.Host.tree c.stat.new.self) s.tree c.stat.result s.answer s.memory
