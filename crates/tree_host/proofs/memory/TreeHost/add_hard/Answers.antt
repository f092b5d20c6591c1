-- With the name the tree is good, and what is stored is linked or held; without memory for it
-- nothing changed.
use Rattle.std.proofs.Common.{refl, sym, ◌∙◌}
use Rattle.tree_model.specs.Tree.{Records}
use Rattle.tree_model.specs.Good.{IsGoodTree}
use Rattle.tree_model.specs.Placing.{with_link}
use Rattle.tree_host.specs.Host.{IsHeldIn}
use Rattle.tree_host.specs.Kept.{tree_from}
use Rattle.tree_host.proofs.Adding.{with_name_good, with_name_held}
use Rattle.tree_host.proofs.Results.{either_way}
use Rattle.tree_host.proofs.memory.TreeHost.add_hard.Goals as goal

pub invariant_of-self : goal.invariant_of-self
invariant_of-self c =
    let s = c.args.self.now in
    let t = tree_from s.nodes s.next s.limits s.moment in
    let free = sym c.name_refusal.ensures ∙ c.in_default.is in
    let made = (with_link t c.args.dir c.args.name.now c.args.ino).records in
    record {
      good = either_way c.add_name.result (λ (rs : Records). IsGoodTree
          (tree_from rs s.next s.limits s.moment)) c.add_name.new.nodes made s.nodes
          c.add_name.ensures.ok c.add_name.ensures.err
          (with_name_good t s.holds s.good s.stored c.args.dir c.args.name.now c.args.ino free made
          refl c.requires.named) s.good;
      stored = either_way c.add_name.result (λ (rs : Records). IsHeldIn
          (tree_from rs s.next s.limits s.moment) s.holds) c.add_name.new.nodes made s.nodes
          c.add_name.ensures.ok c.add_name.ensures.err
          (with_name_held t s.holds s.good s.stored c.args.dir c.args.name.now c.args.ino free made
          refl) s.stored;
      timed = s.timed;
    }
