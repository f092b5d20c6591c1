-- Each line is taken as the definition takes it.
use Rattle.std.proofs.Common.{◌∙◌}
use Rattle.std.proofs.lemmas.Result.{err_from_is_err_and}
use Rattle.mount9_run.proofs.Gathering.{Fails-from, gathered-end, gathered-more, gathered-stop}
use Rattle.mount9_run.proofs.Gathering.{gathered-none}
use Rattle.mount9_run.proofs.header.present.present_lines.Goals as goal

pub returns-in_err-line : goal.returns-in_err-line
returns-in_err-line c = let p = err_from_is_err_and c.from_residual.result c.from_residual.ensures.1
    in rw (p.1, p.2) (Fails-from c.in_err-line.field-0.0 _ _
    (λ k h. c.lines.invariant ∙ gathered-none _ _ _ _ k h) c.in_err-line.ensures.value)

pub returns-then-not-branch : goal.returns-then-not-branch
returns-then-not-branch c =
    let e = rw c.if-not-branch.true at c.in_ok-take_present.ensures in
    c.lines.invariant ∙ gathered-end _ _ _ _ _ _ _ c.in_ok-line.ensures.value _ e.0 e.1

pub returns-in_err-take_present : goal.returns-in_err-take_present
returns-in_err-take_present c = let p = err_from_is_err_and
    c.from_residual-in_err-take_present.result c.from_residual-in_err-take_present.ensures.1 in rw
    (p.1, p.2) (Fails-from c.in_err-take_present.field-0.0 _ _
    (λ k h. c.lines.invariant ∙ gathered-stop _ _ _ _ _ _ _ c.in_ok-line.ensures.value k h)
    c.in_err-take_present.ensures)

pub lines-preserved : goal.lines-preserved
lines-preserved c =
    let e = rw c.if-not-branch.false at c.in_ok-take_present.ensures in
    c.lines.invariant ∙ gathered-more _ _ _ _ _ _ _ c.in_ok-line.ensures.value _ e
