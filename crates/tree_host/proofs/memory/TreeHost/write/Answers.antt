-- What is written leaves a good tree, and what is stored is linked or held.
use Rattle.tree_model.specs.Attributing.{write_refused, overwritten_at, fitting}
use Rattle.tree_model.proofs.Rewriting.{overwritten_good}
use Rattle.tree_host.specs.Kept.{tree_from}
use Rattle.tree_host.proofs.Making.{made_good, made_held}
use Rattle.tree_host.proofs.memory.TreeHost.write.Goals as goal

pub invariant_of-self-2 : goal.invariant_of-self-2
invariant_of-self-2 c =
    let a = c.args in
    let s = a.self.now in
    let t = tree_from s.nodes s.next s.limits s.moment in
    let refused = write_refused s.limits.file a.offset a.bytes.now in
    let f = overwritten_at s.moment a.offset (fitting s.limits.file a.offset a.bytes.now) in
    let amends = overwritten_good t s.good a.ino a.offset a.bytes.now in
    record {
      good = made_good t s.holds s.good s.stored a.ino refused f amends c.write_node.new.nodes
          c.write_node.result c.write_node.ensures;
      stored = made_held t s.holds s.good s.stored a.ino refused f amends c.write_node.new.nodes
          c.write_node.result c.write_node.ensures;
      timed = s.timed;
    }
