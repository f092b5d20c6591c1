-- A change leaves a good tree, and what is stored is linked or held.
use Rattle.tree_host.specs.Changing.{change_refused, changed_by}
use Rattle.tree_host.specs.Kept.{tree_from}
use Rattle.tree_host.proofs.Making.{change_amends, made_good, made_held}
use Rattle.tree_host.proofs.memory.TreeHost.change.Goals as goal

pub invariant_of-self-2 : goal.invariant_of-self-2
invariant_of-self-2 c =
    let s = c.args.self.now in
    let t = tree_from s.nodes s.next s.limits s.moment in
    let refused = change_refused c.args.wanted s.limits.file in
    let f = changed_by c.args.wanted s.moment in
    let amends = change_amends t s.good c.args.ino c.args.wanted in
    record {
      good = made_good t s.holds s.good s.stored c.args.ino refused f amends c.change_node.new.nodes
          c.change_node.result c.change_node.ensures.made;
      stored = made_held t s.holds s.good s.stored c.args.ino refused f amends
          c.change_node.new.nodes c.change_node.result c.change_node.ensures.made;
      timed = s.timed;
    }
