-- Each word is taken as the definition takes it.
use Rattle.std.proofs.Common.{◌∙◌, sym, arith}
use Rattle.std.proofs.lemmas.Result.{err_from_is_err_and}
use Rattle.mount9_run.proofs.WordSteps.{with_words-more, with_words-stop, with_words-end}
use Rattle.mount9_run.proofs.WordSteps.{get-within, Refuses-from}
use Rattle.mount9_run.proofs.command.read_keys.Goals as goal

pub unreachable-requires : goal.unreachable-requires
unreachable-requires c = get-within c.args.words.now c.words.i (omega arith)
    (sym c.in_default.ensures)

pub returns-in_err-take_word : goal.returns-in_err-take_word
returns-in_err-take_word c = let p = err_from_is_err_and c.from_residual.result
    c.from_residual.ensures.1 in rw (p.1, p.2)
    (Refuses-from c.in_err-take_word.field-0.0 _ _
    (λ h. c.words.invariant ∙ with_words-stop _ c.args.words.now c.words.i _ (sym c.in-Some.ensures)
    h) c.in_err-take_word.ensures)

pub words-preserved : goal.words-preserved
words-preserved c = c.words.invariant ∙ with_words-more _ c.args.words.now c.words.i _
    (sym c.in-Some.ensures) _ c.in_ok-take_word.ensures

pub returns : goal.returns
returns c = c.words.invariant ∙ with_words-end _ c.args.words.now c.words.i (omega arith)
