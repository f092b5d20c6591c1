-- Each part takes the walk a step on; the parts are those of the split.
use Rattle.std.proofs.Common.{List, ℕ, Ok, sym, ap, ◌∙◌, rules, tests, refl, Bor}
use Rattle.std.specs.Prelude.{◌==◌}
use Rattle.std.proofs.lemmas.Iterator.Consumers.{YieldsList-end}
use Rattle.std.proofs.lemmas.Iterator.Splits.{YieldsList-from_slice_split}
use Rattle.tree_model.specs.declared.attributes.TheConstants.{TOP}
use Rattle.tree_host.specs.Host.{as_errno}
use Rattle.tree_host.specs.Walking.{walk_parts}
use Rattle.tree_host.proofs.Results.{walk_parts-push}
use Rattle.tree_host.proofs.nodes.reach.Goals as goal

pub loop-part-preserved : goal.loop-part-preserved
loop-part-preserved c =
    c.walk_part-at.ensures _ c.loop-part.invariant
    ∙ ap as_errno (sym (walk_parts-push (λ (p : Bor (List ℕ)). p.now) c.args.nodes.now (Ok TOP)
    c.loop-part.yielded c.in-Some.part))

pub returns : goal.returns
returns c =
    let t = YieldsList-end (YieldsList-from_slice_split _ (λ b. b == 47) c.args.path.now (cc) (cc)
    refl (λ x b q k. search (rules, tests))) c.loop-part.yielded _ c.loop-part.yielded_by _ _
    c.in-None.is c.next.ensures.steps in
    c.loop-part.invariant ∙ ap (λ ps. as_errno (walk_parts c.args.nodes.now (Ok TOP) ps)) t.0
