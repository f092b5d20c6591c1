-- The server begins with the tree and no fault, and never fails.
use Rattle.std.proofs.Common.{IfSome, ap, ◌∙◌, subst}
use Rattle.tree_host.specs.declared.memory.TreeHost.{TreeHost}
use Rattle.tree_host.specs.TreeHosts.{tree, holds, calls}
use Rattle.fid_model.specs.Fids.{ServerState}
use Rattle.mount9_run.specs.CommandViews.{share_view}
use Rattle.mount9_run.specs.Serving.{Shares}
use Rattle.mount9_run.specs.Outcome.{root_given}
use Rattle.mount9_run.specs.Taken.{Took, served_taken}
use Rattle.mount9_run.proofs.Reporting.{Shares-from, linked_whole, at_end, took_by}
use Rattle.mount9_run.proofs.TakenInput.{ok_of}
use Rattle.tree_model.specs.Tree.{linked}
use Rattle.mount9_run.proofs.run.share.Goals as goal

pub returns-clause-shares : goal.returns-clause-shares
returns-clause-shares g c =
    let h = c.pump-told.ensures.pumps in
    let at = c.in-Ok.ensures.host in
    let last = c.into_host-host.result in
    subst (λ (x : TreeHost). Shares (share_view c.args.words.now) (tree x)
    (g.S.Source.left c.args.input.now) (g.S.Source.faults c.args.input.now)
    (g.S.Source.faults c.pump-told.new.input) c.pump-told.new.out.bytes.items (tree last)
    c.pump-told.result) at
    (Shares-from (share_view c.args.words.now) _ _
    (ap (λ (s : ServerState). s.settings) c.in-Ok.ensures.state ∙ c.requires.settings)
    (ap (λ (s : ServerState). s.msize) c.in-Ok.ensures.state ∙ c.requires.msize)
    (ap (λ (x : TreeHost). (calls x).faults) at ∙ c.requires.fresh.faults)
    (h.kept.steadily (ap (λ (x : TreeHost). (calls x).steady) at ∙ c.requires.fresh.steady))
    _ _ _ _ _ _ c.new-replies.ensures (tree last) c.into_host-host.ensures.tree c.pump-told.result
    (linked_whole (tree last) (holds last) c.into_host-host.ensures.holds last.stored)
    h.outcome)

pub returns-clause-takes : goal.returns-clause-takes
returns-clause-takes g c = λ ok.
    let h = c.pump-told.ensures.pumps in
    let at = c.in-Ok.ensures.host in
    let last = c.into_host-host.result in
    let e = ok_of _ ok in
    subst (λ (x : TreeHost). IfSome (g.S.Source.left c.args.input.now)
    (λ bytes. Took (served_taken (share_view c.args.words.now)
    (root_given (share_view c.args.words.now) (linked (tree x))) bytes)
    (g.S.Source.left c.args.input.now) (g.S.Source.left c.pump-told.new.input))) at
    (took_by (share_view c.args.words.now) _ _
    (ap (λ (s : ServerState). s.settings) c.in-Ok.ensures.state ∙ c.requires.settings)
    (ap (λ (s : ServerState). s.msize) c.in-Ok.ensures.state ∙ c.requires.msize)
    (ap (λ (x : TreeHost). (calls x).faults) at ∙ c.requires.fresh.faults)
    (h.kept.steadily (ap (λ (x : TreeHost). (calls x).steady) at ∙ c.requires.fresh.steady))
    _ _ _ _ _ _ c.new-replies.ensures (tree last) c.into_host-host.ensures.tree c.pump-told.result
    h.outcome e.0 e.1)

pub returns-clause-ended : goal.returns-clause-ended
returns-clause-ended g c = at_end _ _ _ _ c.args.words.now.turns c.pump-told.result
    c.pump-told.ensures.pumps.outcome
