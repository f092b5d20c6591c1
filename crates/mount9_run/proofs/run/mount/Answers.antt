-- The mount is refused, or the tree is served.
use Rattle.std.proofs.Common.{◌≡◌, ◌∙◌, IfSome, Option, [], refl, sym, ap, subst}
use Rattle.tree_model.specs.Tree.{linked}
use Rattle.tree_host.specs.TreeHosts.{tree}
use Rattle.mount9_run.specs.Report.{report}
use Rattle.mount9_run.specs.Outcome.{mount_table}
use Rattle.mount9_run.specs.Wrote.{at_sink}
use Rattle.mount9_run.specs.Running.{Tells}
use Rattle.mount9_run.specs.declared.run.Ending.{Ending}
use Rattle.mount9_run.specs.declared.run.Status.TheVariants.{Served, Stopped}
use Rattle.mount9_run.proofs.Ends.{not_served}
use Rattle.mount9_run.specs.CommandViews.{share_view}
use Rattle.mount9_run.specs.HeaderViews.{header_view}
use Rattle.frame_pump.specs.declared.outcome.BridgeError.{BridgeError}
use Rattle.mount9_run.specs.Taken.{Took, mounted_taken}
use Rattle.mount9_run.proofs.Ran.{always}
use Rattle.mount9_run.proofs.TakenInput.{took_nothing}
use Rattle.mount9_run.proofs.Mounting.{Ran-unmounted, Ran-mounted}
use Rattle.mount9_run.proofs.run.mount.Goals as goal

pub returns-in-Some-clause-ran : goal.returns-in-Some-clause-ran
returns-in-Some-clause-ran g c = Ran-unmounted (share_view c.args.words.now)
    (header_view c.args.header) _ _ _ _ _ _ _ _ c.in-Some.cause (sym c.in-Some.ensures.why) refl
    (subst (λ (e : Ending). Tells (at_sink (g.K.Sink.sent c.args.out.now)
    (g.K.Sink.faults c.args.out.now) (g.K.Sink.kept c.args.out.now))
    (at_sink (g.K.Sink.sent c.tell_report.new.out) (g.K.Sink.faults c.tell_report.new.out)
    (g.K.Sink.kept c.tell_report.new.out)) e.status
    (report [] e.verdict (linked (tree c.args.header.host)) mount_table) c.tell_report.result)
    c.halted-ending.ensures c.tell_report.ensures.told)

pub returns-clause-ran : goal.returns-clause-ran
returns-clause-ran g c = Ran-mounted (share_view c.args.words.now) (header_view c.args.header) _ _ _
    _ _ _ _ _ (sym c.in_default.ensures.why) c.serve.ensures.ran

pub returns-in-Some-clause-ended : goal.returns-in-Some-clause-ended
returns-in-Some-clause-ended g c = λ served. absurd
    (not_served _ (λ e. let clash : Stopped ≡ Served =
    sym (ap (λ (x : Ending). x.status) c.halted-ending.ensures) ∙ e in absurd cc)
    c.tell_report.ensures.told served)

pub returns-in-Some-clause-takes : goal.returns-in-Some-clause-takes
returns-in-Some-clause-takes g c = λ told. always (g.S.Source.left c.args.input.now) (λ bytes.
    subst (λ (r : Option BridgeError). Took (mounted_taken (share_view c.args.words.now)
    (tree c.args.header.host) bytes r) (g.S.Source.left c.args.input.now)
    (g.S.Source.left c.args.input.now)) c.in-Some.ensures.why
    (took_nothing (g.S.Source.left c.args.input.now)))

pub returns-clause-takes : goal.returns-clause-takes
returns-clause-takes g c = λ told.
    subst (λ (r : Option BridgeError). IfSome (g.S.Source.left c.args.input.now)
    (λ bytes. Took (mounted_taken (share_view c.args.words.now) (tree c.args.header.host) bytes
    r) (g.S.Source.left c.args.input.now) (g.S.Source.left c.serve.new.input)))
    c.in_default.ensures.why (c.serve.ensures.takes told)
