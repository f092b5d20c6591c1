-- A new tree is good, and nothing of it is held.
use Rattle.std.proofs.Common.{sym, ap, ◌∙◌, subst}
use Rattle.std.specs.FinMap as map
use Rattle.tree_model.specs.declared.attributes.TheConstants.{TOP}
use Rattle.tree_model.specs.Tree.{Record, Records}
use Rattle.tree_model.specs.Good.{IsGoodTree}
use Rattle.tree_model.proofs.Files.{new_tree_good}
use Rattle.tree_host.specs.Holds.{Holds}
use Rattle.tree_host.specs.Host.{IsHeldIn}
use Rattle.tree_host.specs.Kept.{tree_from}
use Rattle.tree_host.proofs.Held.{new_held}
use Rattle.tree_host.proofs.memory.TreeHost.new.Goals as goal

pub invariant_of-result : goal.invariant_of-result
invariant_of-result c =
    let a = c.args in
    let records = c.in-Ok.ensures.ok ∙ ap (λ (rs : Records). map.insert rs TOP c.top.result)
    c.new-nodes.ensures ∙ ap (λ (r : Record). map.insert map.empty TOP r) c.top.ensures in
    record {
      good = subst (λ (rs : Records). IsGoodTree (tree_from rs 2 a.limits a.moment)) (sym records)
          (new_tree_good a.limits a.moment a.born a.mode a.uid a.gid c.requires.limits
          c.requires.moment c.requires.born c.requires.mode);
      stored = subst (λ (h : Holds). IsHeldIn (tree_from c.insert.new.self 2 a.limits a.moment) h)
          (sym c.new.ensures)
          (subst (λ (rs : Records). IsHeldIn (tree_from rs 2 a.limits a.moment) map.empty)
          (sym records) (new_held a.limits a.moment a.born a.mode a.uid a.gid));
      timed = c.requires.born;
    }
