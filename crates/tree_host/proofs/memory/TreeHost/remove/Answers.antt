-- The sweep at what loses a name leaves what is linked or held.
use Rattle.std.proofs.Common.{ap, ◌∙◌}
use Rattle.tree_model.specs.Tree.{Records}
use Rattle.tree_model.specs.Sound.{swept}
use Rattle.tree_host.specs.Holds.{is_held}
use Rattle.tree_host.specs.Kept.{tree_from}
use Rattle.tree_host.proofs.Leaving.{gone_good, gone_held, gone_tree}
use Rattle.tree_host.proofs.memory.TreeHost.remove.Goals as goal

pub invariant_of-self : goal.invariant_of-self
invariant_of-self c =
    let a = c.args in
    let s = a.self.now in
    let t = tree_from s.nodes s.next s.limits s.moment in
    let made = c.sweep.ensures ∙ ap (λ (rs : Records). swept (is_held s.holds) rs a.ino)
    c.remove_entry.ensures in
    record {
      good = gone_good t s.holds s.good s.stored a.dir a.name.now a.ino c.requires.found
          c.requires.empty c.sweep.new.nodes made;
      stored = gone_held t s.holds s.good s.stored a.dir a.name.now a.ino c.requires.found
          c.requires.empty c.sweep.new.nodes made;
      timed = s.timed;
    }

pub returns-clause-tree : goal.returns-clause-tree
returns-clause-tree c =
    let a = c.args in
    let s = a.self.now in
    let t = tree_from s.nodes s.next s.limits s.moment in
    let made = c.sweep.ensures ∙ ap (λ (rs : Records). swept (is_held s.holds) rs a.ino)
    c.remove_entry.ensures in
    gone_tree t s.holds s.good s.stored a.dir a.name.now a.ino c.requires.found c.requires.empty
    c.sweep.new.nodes made
