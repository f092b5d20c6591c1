-- The number that a run exits with, and what it tells.
use Rattle.std.proofs.Common.{sym, ◌∙◌}
use Rattle.mount9_run.proofs.Exits.{served_by_code, Ran-played, Ran-valid}
use Rattle.mount9_run.proofs.TakenInput.{told_by_code}
use Rattle.mount9_run.proofs.run.run.Goals as goal

pub returns-clause-exits : goal.returns-clause-exits
returns-clause-exits g c = record {
  status = c.answer.result;
  is = c.exit_code.ensures;
  ran =
      c.answer.ensures.ran;
}

pub returns-clause-refused : goal.returns-clause-refused
returns-clause-refused g c = λ none. record {
  status = c.answer.result;
  is =
      c.exit_code.ensures;
  ran = c.answer.ensures.refused none;
}

pub returns-clause-played : goal.returns-clause-played
returns-clause-played g c = λ zero.
    let served = served_by_code c.answer.result (sym c.exit_code.ensures ∙ zero) in
    Ran-played c.args.words.now (g.S.Source.left c.args.input.now) _ _ _ _ _ _ c.answer.result
    served (c.answer.ensures.headed served) c.answer.ensures.ran

pub returns-clause-valid : goal.returns-clause-valid
returns-clause-valid g c = Ran-valid c.args.words.now (g.S.Source.left c.args.input.now) _ _ _ _ _ _
    c.exit_code.result c.answer.result c.exit_code.ensures c.answer.ensures.ran

pub returns-clause-ended : goal.returns-clause-ended
returns-clause-ended g c = λ zero. c.answer.ensures.ended
    (served_by_code c.answer.result (sym c.exit_code.ensures ∙ zero))

pub returns-clause-takes : goal.returns-clause-takes
returns-clause-takes g c = λ few. c.answer.ensures.takes
    (told_by_code c.answer.result c.exit_code.result c.exit_code.ensures few)
