-- What a name names is stored, and stays so with a hold more.
use Rattle.std.specs.Prelude.{false}
use Rattle.tree_model.specs.Finding.{find}
use Rattle.tree_model.proofs.Naming.{found_is_named, named_is_stored}
use Rattle.tree_host.specs.Kept.{tree_from}
use Rattle.tree_host.proofs.Held.{either_held}
use Rattle.tree_host.proofs.Results.{told_ok}
use Rattle.tree_host.proofs.memory.TreeHostHost.lookup.Goals as goal

pub invariant_of-self-2 : goal.invariant_of-self-2
invariant_of-self-2 c =
    let s = c.args.self.now in
    let t = tree_from s.nodes s.next s.limits s.moment in
    let i = c.in_ok-ino.ino in
    let named = found_is_named false t c.args.dir c.args.name.now i
    (told_ok (find false t c.args.dir c.args.name.now) i c.in_ok-ino.ensures) in
    record {
      good = s.good;
      stored = either_held t s.holds c.hold.new.holds i s.stored (named_is_stored t s.good i named)
          c.hold.result c.hold.ensures.ok c.hold.ensures.err;
      timed = s.timed;
    }
