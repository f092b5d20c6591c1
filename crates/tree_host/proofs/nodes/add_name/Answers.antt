-- The record and its directory are apart, so their changes can be made in either order.
use Rattle.std.proofs.Common.{◌<◌, ◌-◌, ◌^◌, sym, ap, ◌∙◌, subst, unwrap_or}
use Rattle.std.specs.Prelude.{option_map}
use Rattle.std.specs.FinMap as map
use Rattle.tree_model.specs.Tree.{Records}
use Rattle.tree_model.specs.Making.{change, joined_by}
use Rattle.tree_model.specs.Placing.{one_link_more}
use Rattle.tree_model.proofs.Changing.{change_keeps, changes_commute}
use Rattle.tree_host.specs.Stored.{links}
use Rattle.tree_host.specs.Kept.{put_by}
use Rattle.tree_host.proofs.Putting.{put_free}
use Rattle.tree_host.proofs.nodes.add_name.Goals as goal

pub link_more-requires : goal.link_more-requires
link_more-requires c =
    let same = ap (λ (rs : Records). map.get rs c.args.ino) c.in_ok-put_into.ensures.ok
    ∙ change_keeps (put_by c.args.name.now c.args.ino) c.args.nodes.now c.args.dir c.args.ino
    (λ is. c.requires.apart (sym is)) in
    subst (λ o. unwrap_or (option_map links o) 0 < 2 ^ 64 - 1) (sym same) c.requires.few

pub returns-clause-ok : goal.returns-clause-ok
returns-clause-ok c =
    c.link_more.ensures ∙ ap (λ (rs : Records). change one_link_more rs c.args.ino)
    (c.in_ok-put_into.ensures.ok
    ∙ put_free c.args.nodes.now c.args.dir c.args.name.now c.args.ino c.requires.free)
    ∙ changes_commute one_link_more (joined_by c.args.name.now c.args.ino) c.args.nodes.now
    c.args.dir c.args.ino c.requires.apart
