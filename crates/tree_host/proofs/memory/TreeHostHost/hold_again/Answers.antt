-- What is held is stored, and stays so with a hold more.
use Rattle.tree_host.specs.Kept.{tree_from}
use Rattle.tree_host.proofs.Held.{either_held, is_held_counted}
use Rattle.tree_host.proofs.memory.TreeHostHost.hold_again.Goals as goal

pub invariant_of-self-2 : goal.invariant_of-self-2
invariant_of-self-2 c =
    let s = c.args.self.now in
    record {
      good = s.good;
      stored = either_held (tree_from s.nodes s.next s.limits s.moment) s.holds c.hold.new.holds
          c.args.ino s.stored (s.stored.stored c.args.ino
          (is_held_counted s.holds c.args.ino c.requires.held)) c.hold.result c.hold.ensures.ok
          c.hold.ensures.err;
      timed = s.timed;
    }
