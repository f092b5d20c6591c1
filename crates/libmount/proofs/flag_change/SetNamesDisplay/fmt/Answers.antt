-- The names so far are written, and the separator stands behind them.
use Rattle.std.proofs.Common.{[], ◌∷◌, refl, sym, rules, ◌∙◌}
use Rattle.std.proofs.lemmas.Grind.{put_two}
use Rattle.port_base.specs.Flags.{bits_of}
use Rattle.libmount.specs.BuilderTexts.{is_set, name_of, named, names_of}
use Rattle.libmount.proofs.BuilderLemmas.{between_more, comma_is_text, passing_more, passing_same}
use Rattle.libmount.proofs.BuilderLemmas.{join_written}
use Rattle.libmount.proofs.flag_change.SetNamesDisplay.fmt.Goals.{then-contains+in_ok-write}
use Rattle.libmount.proofs.flag_change.SetNamesDisplay.fmt.Goals.{else-contains}
use Rattle.libmount.proofs.flag_change.SetNamesDisplay.fmt.Goals as goal

pub loop-row-init : goal.loop-row-init
unfolding names_of
loop-row-init g c = (search rules, refl, ([], (refl, refl)))

pub loop-row-preserved : goal.loop-row-preserved
unfolding names_of
loop-row-preserved g c = elim c.if-contains.branch [
  | then-contains+in_ok-write w ↦
      let more = passing_more (is_set (bits_of c.args.self.now.0)) named
      c.flag_names-row-items.result.now c.loop-row.row-index _ c.loop-row-test.true
      (sym c.contains.ensures ∙ w.if-contains.true) in
      rw (w.f-is, w.separator-is) (
        λ plain. let before = c.loop-row.invariant.0 plain in
            put_two g.W.Write.write_str_gives _ _ _ _ _ _ before
            (w.in_ok-write.ensures.writes before.plain refl)
            (join_written name_of (44 ∷ []) _ _ _ _ c.loop-row.invariant.1 more),
        sym (between_more (44 ∷ []) _ _ _ more),
        (44 ∷ [], (refl, comma_is_text)),
      )
  | else-contains w ↦
      rw (
        w.f-is,
        w.separator-is,
        passing_same (is_set (bits_of c.args.self.now.0)) named
            c.flag_names-row-items.result.now c.loop-row.row-index _ c.loop-row-test.true
            (sym c.contains.ensures ∙ w.if-contains.false),
      )
      c.loop-row.invariant
]
