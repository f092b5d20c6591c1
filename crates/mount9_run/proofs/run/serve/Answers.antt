-- The share's ending is reported, or not.
use Rattle.std.proofs.Common.{Result, sym, refl, subst}
use Rattle.std.specs.Prelude.{IsOk}
use Rattle.mount9_run.specs.declared.run.Ending.{Ending}
use Rattle.mount9_run.specs.declared.run.Status.{Status}
use Rattle.mount9_run.specs.CommandViews.{share_view}
use Rattle.mount9_run.proofs.Ends.{served_text, served_ending, unserved, untold}
use Rattle.mount9_run.proofs.Told.{Ran-reported, Ran-unreported}
use Rattle.mount9_run.proofs.run.serve.Goals as goal

pub returns-in-Ok-ending_of-clause-ran : goal.returns-in-Ok-ending_of-clause-ran
returns-in-Ok-ending_of-clause-ran g c = Ran-reported (share_view c.args.words.now) _ _ _ _ _ _ _ _
    _ _ c.as_bytes.ensures _ _ c.share-told.ensures.shares c.in-Ok-ending_of.ending
    (sym c.in-Ok-ending_of.ensures.by) c.tell_report.ensures.range _ c.tell_report.ensures.told

pub returns-clause-ran : goal.returns-clause-ran
returns-clause-ran g c = Ran-unreported (share_view c.args.words.now) _ _ _
    (g.K.Sink.sent c.args.out.now) _ _ _ (g.K.Sink.faults c.args.out.now) _ _ refl _ _
    c.share-told.ensures.shares c.in-Err.status (sym c.in-Err.ensures.by)

pub returns-in-Ok-ending_of-clause-ended : goal.returns-in-Ok-ending_of-clause-ended
returns-in-Ok-ending_of-clause-ended g c = λ served.
    c.share-told.ensures.ended (served_ending _ c.in-Ok-ending_of.ending
    (sym c.in-Ok-ending_of.ensures.by) (served_text _ c.tell_report.ensures.told served))

pub returns-clause-ended : goal.returns-clause-ended
returns-clause-ended g c = λ served. absurd (unserved _ c.in-Err.status (sym c.in-Err.ensures.by)
    served)

pub returns-in-Ok-ending_of-clause-takes : goal.returns-in-Ok-ending_of-clause-takes
returns-in-Ok-ending_of-clause-takes g c = λ told. c.share-told.ensures.takes
    (subst (λ (r : Result Ending Status). IsOk r) c.in-Ok-ending_of.ensures.by refl)

pub returns-clause-takes : goal.returns-clause-takes
returns-clause-takes g c = λ told. absurd (untold _ c.in-Err.status (sym c.in-Err.ensures.by) told)
