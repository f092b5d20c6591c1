-- Each line is taken as the definition takes it.
use Rattle.std.proofs.Common.{◌∙◌, sym, ap}
use Rattle.std.proofs.lemmas.Result.{err_from_is_err_and}
use Rattle.tree_model.specs.declared.attributes.Stamp.{Stamp}
use Rattle.tree_host.specs.TreeHosts.{tree}
use Rattle.mount9_run.specs.Reading.{gathered, lines_of}
use Rattle.mount9_run.specs.HeaderRecords.{record_at}
use Rattle.mount9_run.proofs.Gathering.{Fails-from, gathered-end, gathered-more, gathered-stop}
use Rattle.mount9_run.proofs.Gathering.{gathered-none}
use Rattle.mount9_run.proofs.header.tree.add_lines.Goals as goal

pub returns-in_err-line-clause-tree : goal.returns-in_err-line-clause-tree
returns-in_err-line-clause-tree c = let p = err_from_is_err_and c.from_residual.result
    c.from_residual.ensures.1 in rw (p.1, p.2)
    (Fails-from c.in_err-line.field-0.0 _ _ (λ k h. c.lines.invariant.lines
    ∙ gathered-none _ _ _ _ k h) c.in_err-line.ensures.value)

pub returns-then-not-branch-clause-tree : goal.returns-then-not-branch-clause-tree
returns-then-not-branch-clause-tree c =
    let e = rw c.if-not-branch.true at c.in_ok-take_line.ensures.tree in
    c.lines.invariant.lines ∙ gathered-end _ _ _ _ _ _ _ c.in_ok-line.ensures.value _ e.0 e.1

pub returns-in_err-take_line-clause-tree : goal.returns-in_err-take_line-clause-tree
returns-in_err-take_line-clause-tree c = let p =
    err_from_is_err_and c.from_residual-in_err-take_line.result
    c.from_residual-in_err-take_line.ensures.1 in rw (p.1, p.2)
    (Fails-from c.in_err-take_line.field-0.0 _ _
    (λ k h. c.lines.invariant.lines ∙ gathered-stop _ _ _ _ _ _ _ c.in_ok-line.ensures.value k h)
    c.in_err-take_line.ensures.tree)

pub lines-preserved : goal.lines-preserved
lines-preserved c =
    let e = rw c.if-not-branch.false at c.in_ok-take_line.ensures.tree in
    let step = c.take_line.ensures.rest in
    let before = c.lines.invariant.rest in
    record {
      lines = c.lines.invariant.lines ∙ gathered-more _ _ _ _ _ _ _ c.in_ok-line.ensures.value _ e
          ∙ ap (λ (b : Stamp). gathered (record_at b) (tree c.take_line.new.host)
          c.in_ok-line.next.number (lines_of c.in_ok-line.next.rest.now)) (sym step.born);
      rest = record {
        born = step.born ∙ before.born;
        holds = step.holds ∙ before.holds;
        calls =
            step.calls ∙ before.calls;
      };
    }
