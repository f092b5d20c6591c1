-- The directory is found beside the new record, and what was added is undone where its entry has no
-- memory.
use Rattle.std.proofs.Common.{◌≡◌, ◌<◌, ◌-◌, ◌^◌, sym, ap, ◌∙◌, subst, unwrap_or, Option, None}
use Rattle.std.specs.Prelude.{option_map, option_and_then}
use Rattle.std.specs.FinMap as map
use Rattle.tree_model.specs.Tree.{Record, Records, listed}
use Rattle.tree_model.specs.Finding.{entry_named}
use Rattle.tree_model.specs.Making.{change, next_cookie}
use Rattle.tree_model.proofs.Maps.{undone, insert_keeps}
use Rattle.tree_host.specs.Kept.{put_by}
use Rattle.tree_host.proofs.Putting.{put_free}
use Rattle.tree_host.proofs.nodes.add_node.Goals as goal

pub put_into-requires : goal.put_into-requires
put_into-requires c =
    let same = ap (λ rs. map.get rs c.args.dir) c.in_ok-insert.ensures.ok
    ∙ insert_keeps c.args.nodes.now c.args.ino c.args.node c.args.dir c.requires.apart in
    record {
      room = subst (λ (o : Option Record). unwrap_or
          (option_map next_cookie (option_map (λ (r : Record). r.body) o)) 0 < 2 ^ 64 - 1)
          (sym same)
          c.requires.room;
    }

pub returns-in-Ok-clause-ok : goal.returns-in-Ok-clause-ok
returns-in-Ok-clause-ok c =
    let a = c.args in
    let more = map.insert a.nodes.now a.ino a.node in
    let same = insert_keeps a.nodes.now a.ino a.node a.dir c.requires.apart in
    c.in-Ok.ensures.ok
    ∙ ap (λ (rs : Records). change (put_by a.name.now a.ino) rs a.dir) c.in_ok-insert.ensures.ok
    ∙ put_free more a.dir a.name.now a.ino (subst (λ (o : Option Record).
    option_and_then (λ b. entry_named a.name.now (listed b))
    (option_map (λ (r : Record). r.body) o) ≡ None) (sym same) c.requires.free)

pub returns-in-Err-clause-err : goal.returns-in-Err-clause-err
returns-in-Err-clause-err c =
    c.take_away.ensures ∙ ap (λ rs. map.remove rs c.args.ino)
    (c.in-Err.ensures.err ∙ c.in_ok-insert.ensures.ok)
    ∙ undone c.args.nodes.now c.args.ino c.args.node c.requires.fresh
