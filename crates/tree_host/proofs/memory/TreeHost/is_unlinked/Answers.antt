-- In a good tree links tell whether a directory is linked.
use Rattle.std.proofs.Common.{[], ◌∙◌}
use Rattle.tree_host.specs.Kept.{tree_from}
use Rattle.tree_host.proofs.Moving.{unlinked_as}
use Rattle.tree_host.proofs.memory.TreeHost.is_unlinked.Goals as goal

pub returns : goal.returns
returns c =
    let s = c.args.self.now in
    c.has_no_links.ensures ∙ unlinked_as (tree_from s.nodes s.next s.limits s.moment) s.holds s.good
    s.stored c.args.dir [] c.args.dir [] 0 c.args.dir c.requires
