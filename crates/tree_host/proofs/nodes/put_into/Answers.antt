-- What is written through the borrow of the record is the change of the map.
use Rattle.std.proofs.Common.{◌≡◌, ap, ◌∙◌, subst, OnSome}
use Rattle.std.specs.FinMap as map
use Rattle.tree_model.specs.Making.{changed}
use Rattle.tree_host.specs.Kept.{put_by}
use Rattle.tree_model.proofs.Maps.{rewritten}
use Rattle.tree_host.proofs.Results.{on_ok, on_err}
use Rattle.tree_host.proofs.nodes.put_into.Goals as goal

pub returns-in-Some-clause-ok : goal.returns-in-Some-clause-ok
returns-in-Some-clause-ok c =
    let rs = c.args.nodes.now in
    let i = c.args.dir in
    let w = c.join.new.self in
    on_ok c.join.result c.join.ensures.ok (λ is.
    subst (λ o. OnSome o (c.get_mut.follows.lender w ≡ map.insert rs i w)) c.in-Some.is
    (c.get_mut.follows.holds w)
    ∙ ap (λ r. map.insert rs i r) is
    ∙ ap (λ o. changed (put_by c.args.name.now c.args.ino) o rs i) c.in-Some.ensures.value)

pub returns-in-Some-clause-err : goal.returns-in-Some-clause-err
returns-in-Some-clause-err c =
    let rs = c.args.nodes.now in
    let i = c.args.dir in
    let w = c.join.new.self in
    on_err c.join.result c.join.ensures.err (λ is.
    subst (λ o. OnSome o (c.get_mut.follows.lender w ≡ map.insert rs i w)) c.in-Some.is
    (c.get_mut.follows.holds w)
    ∙ ap (λ r. map.insert rs i r) is
    ∙ rewritten rs i c.in-Some.node.now c.in-Some.ensures.value)
