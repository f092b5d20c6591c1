-- In a good tree links tell whether a directory is linked.
use Rattle.std.proofs.Common.{sym, ◌∙◌}
use Rattle.tree_host.specs.Kept.{tree_from}
use Rattle.tree_host.proofs.Adding.{refused_as}
use Rattle.tree_host.proofs.memory.TreeHost.create_refusal.Goals as goal

pub returns : goal.returns
returns c =
    let s = c.args.self.now in
    c.refusal.ensures ∙ sym (refused_as (tree_from s.nodes s.next s.limits s.moment) s.holds s.good
    s.stored c.args.dir c.args.name.now)
