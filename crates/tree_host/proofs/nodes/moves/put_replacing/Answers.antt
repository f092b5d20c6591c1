-- What is replaced could have gone first.
use Rattle.std.proofs.Common.{ap, ◌∙◌}
use Rattle.tree_model.specs.Tree.{Records}
use Rattle.tree_host.specs.Kept.{displaced_in}
use Rattle.tree_host.proofs.Putting.{displaced}
use Rattle.tree_host.proofs.nodes.moves.put_replacing.Goals as goal

pub returns-clause-ok : goal.returns-clause-ok
returns-clause-ok c =
    let a = c.args in
    c.displace.ensures
    ∙ ap (λ (rs : Records). displaced_in a.moment a.to.dir a.there rs) c.in_ok-put_into.ensures.ok
    ∙ displaced a.nodes.now a.moment a.to.dir a.to.name.now a.ino a.there c.requires.there
