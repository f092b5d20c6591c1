-- The new entry is added first, and what is replaced goes last: the tree is that of the definition.
use Rattle.std.proofs.Common.{ap, ◌∙◌}
use Rattle.tree_model.specs.Tree.{Records}
use Rattle.tree_host.specs.Holds.{is_held}
use Rattle.tree_host.specs.Kept.{tree_from, swept_of}
use Rattle.tree_host.proofs.Moving.{moves}
use Rattle.tree_host.proofs.memory.TreeHost.move_free.Goals as goal

pub invariant_of-self-2 : goal.invariant_of-self-2
invariant_of-self-2 c =
    let a = c.args in
    let s = a.self.now in
    let q = c.requires in
    let made = c.sweep_replaced.ensures ∙ ap (λ (rs : Records). swept_of (is_held s.holds)
    a.moved.there
    rs) c.in_ok-move_entry.ensures.ok in
    let is = moves (tree_from s.nodes s.next s.limits s.moment) s.holds s.good s.stored
    a.moved.from.dir
    a.moved.from.name.now a.moved.to.dir a.moved.to.name.now a.moved.ino q.named q.old q.directory
    q.live a.moved.there q.new
    q.other q.free c.sweep_replaced.new.nodes made in
    record { good = is.good; stored = is.held; timed = s.timed }

pub returns-clause-ok : goal.returns-clause-ok
returns-clause-ok c =
    let a = c.args in
    let s = a.self.now in
    let q = c.requires in
    let made = c.sweep_replaced.ensures ∙ ap (λ (rs : Records). swept_of (is_held s.holds)
    a.moved.there
    rs) c.in_ok-move_entry.ensures.ok in
    (moves (tree_from s.nodes s.next s.limits s.moment) s.holds s.good s.stored a.moved.from.dir
    a.moved.from.name.now a.moved.to.dir a.moved.to.name.now a.moved.ino q.named q.old q.directory
    q.live a.moved.there q.new
    q.other q.free c.sweep_replaced.new.nodes made).tree
