-- The parts are those of the split.
use Rattle.std.proofs.Common.{List, ℕ, Ok, false, ap, ◌∙◌, sym, rules, tests, refl, Bor}
use Rattle.std.specs.Prelude.{◌==◌, fold}
use Rattle.std.proofs.lemmas.Iterator.Consumers.{YieldsList-end}
use Rattle.std.proofs.lemmas.Iterator.Splits.{YieldsList-from_slice_split}
use Rattle.p9_server.specs.ConfigTexts.{with_part}
use Rattle.p9_server.proofs.ConfigParts.{with_part-push, some_text}
use Rattle.p9_server.proofs.config_text.casefold_of.Goals as goal

pub loop-part-preserved : goal.loop-part-preserved
loop-part-preserved c =
    c.with_part-read.ensures
    ∙ ap (λ r. with_part r c.in-Some.part.now) c.loop-part.invariant
    ∙ sym (with_part-push (λ (p : Bor (List ℕ)). p.now) (Ok false) c.loop-part.yielded
    c.in-Some.part)

pub returns : goal.returns
returns c =
    let t = YieldsList-end (YieldsList-from_slice_split _ (λ b. b == 58) c.args.text.now (cc) (cc)
    refl (λ x b q k. search (rules, tests))) c.loop-part.yielded _ c.loop-part.yielded_by _ _
    c.in-None.is c.next.ensures.steps in
    c.loop-part.invariant ∙ ap (λ ps. fold with_part (Ok false) ps) t.0
    ∙ some_text c.args.text.now (sym c.is_empty.ensures ∙ c.if-is_empty.false)
