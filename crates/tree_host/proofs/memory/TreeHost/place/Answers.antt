-- With the record the tree is good, and what is stored is linked or held.
use Rattle.tree_host.specs.Kept.{tree_from}
use Rattle.tree_host.proofs.Adding.{with_it_good, with_it_held}
use Rattle.tree_host.proofs.memory.TreeHost.place.Goals as goal

pub invariant_of-self-2 : goal.invariant_of-self-2
invariant_of-self-2 c =
    let s = c.args.self.now in
    let t = tree_from s.nodes s.next s.limits s.moment in
    record {
      good = with_it_good t s.holds s.good s.stored c.args.dir c.args.name.now c.requires.free
          c.args.node c.requires.new c.add_node.new.nodes c.in_ok-add_node.ensures.ok c.requires.named;
      stored = with_it_held t s.holds s.good s.stored c.args.dir c.args.name.now c.requires.free
          c.args.node c.requires.new c.add_node.new.nodes c.in_ok-add_node.ensures.ok;
      timed = s.timed;
    }
