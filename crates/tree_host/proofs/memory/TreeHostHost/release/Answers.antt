-- The sweep at the inode leaves what is linked or held, which is good.
use Rattle.std.proofs.Common.{sym, ap, subst}
use Rattle.tree_model.specs.Tree.{Records}
use Rattle.tree_model.specs.Good.{IsGoodTree}
use Rattle.tree_model.proofs.Keeping.{keep_good}
use Rattle.tree_host.specs.Holds.{is_held}
use Rattle.tree_host.specs.Host.{IsHeldIn}
use Rattle.tree_host.specs.Kept.{tree_from}
use Rattle.tree_host.proofs.Held.{less_tree, less_held}
use Rattle.tree_host.proofs.memory.TreeHostHost.release.Goals as goal

pub invariant_of-self : goal.invariant_of-self
invariant_of-self c =
    let s = c.args.self.now in
    let t = tree_from s.nodes s.next s.limits s.moment in
    let left = less_tree t s.holds c.lower.new.holds c.args.ino s.good s.stored c.requires
    c.lower.ensures c.sweep.new.nodes c.sweep.ensures in
    record {
      good = subst (λ (rs : Records). IsGoodTree (tree_from rs s.next s.limits s.moment)) (sym left)
          (keep_good t s.good (is_held c.lower.new.holds));
      stored = subst (λ (rs : Records). IsHeldIn (tree_from rs s.next s.limits s.moment)
          c.lower.new.holds) (sym left) (less_held t s.holds c.lower.new.holds c.args.ino s.good
          s.stored c.requires c.lower.ensures);
      timed = s.timed;
    }

pub returns-clause-tree : goal.returns-clause-tree
returns-clause-tree c =
    let s = c.args.self.now in
    let t = tree_from s.nodes s.next s.limits s.moment in
    ap (λ (rs : Records). tree_from rs s.next s.limits s.moment)
    (less_tree t s.holds c.lower.new.holds c.args.ino s.good s.stored c.requires c.lower.ensures
    c.sweep.new.nodes c.sweep.ensures)
