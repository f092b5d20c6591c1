-- With the name the tree is good, and what is stored is linked or held; without memory for it
-- nothing changed.
use Rattle.std.proofs.Common.{sym, ◌∙◌}
use Rattle.tree_model.specs.Tree.{Records}
use Rattle.tree_model.specs.Good.{IsGoodTree}
use Rattle.tree_model.specs.Creating.{with_name}
use Rattle.tree_host.specs.Host.{IsHeldIn}
use Rattle.tree_host.specs.Kept.{tree_from}
use Rattle.tree_host.proofs.Adding.{with_name_it_good, with_name_it_held}
use Rattle.tree_host.proofs.Results.{either_way}
use Rattle.tree_host.proofs.memory.TreeHost.link_name.Goals as goal

pub invariant_of-self : goal.invariant_of-self
invariant_of-self c =
    let a = c.args in
    let s = a.self.now in
    let t = tree_from s.nodes s.next s.limits s.moment in
    let n = a.name.now in
    let free = sym c.name_refusal.ensures ∙ c.in_default.is in
    let made = (with_name t a.dir n a.ino).records in
    let e = c.link_node.ensures in
    record {
      good = either_way c.link_node.result (λ (rs : Records). IsGoodTree
          (tree_from rs s.next s.limits s.moment)) c.link_node.new.nodes made s.nodes e.ok e.err
          (with_name_it_good t s.holds s.good s.stored a.dir n a.ino free c.requires) s.good;
      stored = either_way c.link_node.result (λ (rs : Records). IsHeldIn
          (tree_from rs s.next s.limits s.moment) s.holds) c.link_node.new.nodes made s.nodes e.ok
          e.err (with_name_it_held t s.holds s.good s.stored a.dir n a.ino free c.requires)
          s.stored;
      timed = s.timed;
    }
