-- An escape stands in a text where it stands at the front of what is left.
use Rattle.std.proofs.Common.{◌∙◌, sym, ap, arith}
use Rattle.std.proofs.lemmas.List.{drop_all}
use Rattle.libmount.specs.Escapes.{has_escape}
use Rattle.libmount.proofs.EscapeLemmas.{has-found, has-more, has-nil}
use Rattle.libmount.proofs.mountinfo.escapes.has_escape.Goals as goal

pub returns-then-starts_with_escape : goal.returns-then-starts_with_escape
returns-then-starts_with_escape c =
    let e = c.starts_with_escape.ensures in
    sym (c.loop-at.invariant ∙ has-found c.args.text.now c.loop-at.at
    (e.long c.if-starts_with_escape.true) (sym e.value ∙ c.if-starts_with_escape.true))

pub loop-at-preserved : goal.loop-at-preserved
loop-at-preserved c = c.loop-at.invariant ∙ has-more c.args.text.now c.loop-at.at
    (sym c.starts_with_escape.ensures.value ∙ c.if-starts_with_escape.false)

pub returns : goal.returns
returns c = sym (c.loop-at.invariant ∙ ap has_escape
    (drop_all c.loop-at.at c.args.text.now (omega arith)) ∙ has-nil)
