-- With the record the tree is good, and what is stored is linked or held.
use Rattle.std.proofs.Common.{sym, ap, ◌∙◌}
use Rattle.tree_model.specs.Tree.{Record}
use Rattle.tree_model.specs.Creating.{with_new, empty_directory}
use Rattle.tree_model.proofs.Creating.{new_empty_directory}
use Rattle.tree_host.specs.Kept.{tree_from}
use Rattle.tree_host.proofs.Adding.{with_new_it_good, with_new_it_same}
use Rattle.tree_host.proofs.memory.TreeHost.make_directory.Goals as goal

pub invariant_of-self-2 : goal.invariant_of-self-2
invariant_of-self-2 c =
    let a = c.args in
    let s = a.self.now in
    let t = tree_from s.nodes s.next s.limits s.moment in
    let n = a.name.now in
    let free = sym c.create_refusal.ensures ∙ c.in_default.is in
    let r = empty_directory s.moment a.mode a.dir in
    let new = new_empty_directory s.moment a.mode a.dir s.good.moment in
    let made = c.in_ok-make_node.ensures.ok ∙ ap (λ (r : Record). (with_new t a.dir n r).records)
    c.empty_directory-node.ensures in
    record {
      good = with_new_it_good t s.holds s.good s.stored a.dir n free r new c.requires
          c.make_node.new.nodes made;
      stored = with_new_it_same t s.holds s.good s.stored a.dir n free r new c.requires
          c.make_node.new.nodes made;
      timed = s.timed;
    }
