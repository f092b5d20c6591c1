-- The options so far are written, and the separator stands behind them.
use Rattle.std.proofs.Common.{[], ◌∷◌, refl, sym, rules}
use Rattle.std.proofs.lemmas.Grind.{put_two}
use Rattle.libmount.specs.BuilderTexts.{option_text, options_text}
use Rattle.libmount.proofs.BuilderLemmas.{between_more, comma_is_text, given_more, given_same}
use Rattle.libmount.proofs.BuilderLemmas.{join_written}
use Rattle.libmount.proofs.tmpfs.OptionsDisplay.fmt.Goals.{in-Some+in_ok-write, in_default}
use Rattle.libmount.proofs.tmpfs.OptionsDisplay.fmt.Goals as goal

pub loop-option-init : goal.loop-option-init
unfolding options_text
loop-option-init g c = (search rules, refl, ([], (refl, refl)))

pub loop-option-preserved : goal.loop-option-preserved
unfolding options_text
loop-option-preserved g c = elim c.match-option.branch [
  | in-Some+in_ok-write w ↦
      let more = given_more c.args.self.now.0 c.loop-option.option-index w.in-Some.option
      c.loop-option-test.true w.in-Some.is in
      rw (w.f-is, w.separator-is) (
        λ plain. let before = c.loop-option.invariant.0 plain in
            put_two g.W.Write.write_str_gives _ _ _ _ _ _ before
            (w.in_ok-write.ensures.writes before.plain refl)
            (join_written option_text (44 ∷ []) _ _ _ w.in-Some.option c.loop-option.invariant.1
            more),
        sym (between_more (44 ∷ []) _ _ w.in-Some.option more),
        (44 ∷ [], (refl, comma_is_text)),
      )
  | in_default w ↦
      rw (
        w.f-is,
        w.separator-is,
        given_same c.args.self.now.0 c.loop-option.option-index
            c.loop-option-test.true w.in_default.is,
      ) c.loop-option.invariant
]
