-- Where the walk ends is stored, and stays so with a hold more.
use Rattle.std.proofs.Common.{Ok}
use Rattle.tree_model.specs.declared.attributes.TheConstants.{TOP}
use Rattle.tree_model.specs.Finding.{root_of, path_names}
use Rattle.tree_host.specs.Kept.{tree_from}
use Rattle.tree_host.proofs.Held.{either_held}
use Rattle.tree_host.proofs.Results.{told_ok, root_is_stored}
use Rattle.tree_host.proofs.memory.TreeHostHost.attach_path.Goals as goal

pub invariant_of-self-2 : goal.invariant_of-self-2
invariant_of-self-2 c =
    let s = c.args.self.now in
    let t = tree_from s.nodes s.next s.limits s.moment in
    let i = c.in_ok-ino.ino in
    let names = path_names c.args.path.now in
    let had = root_is_stored t names (Ok TOP) i
    (told_ok (root_of t names) i (c.in_ok-ino.ensures.answer s.next s.limits s.moment)) in
    record {
      good = s.good;
      stored = either_held t s.holds c.hold.new.holds i s.stored had c.hold.result c.hold.ensures.ok
          c.hold.ensures.err;
      timed = s.timed;
    }
