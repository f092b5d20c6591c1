-- A walk of some names lets its hold go; one of no names has none.
use Rattle.std.proofs.Common.{◌∙◌}
use Rattle.tree_host.specs.Holds.{is_held}
use Rattle.fid_model.proofs.Keeping.{keep_same}
use Rattle.p9_server.proofs.Walks.{own_released}
use Rattle.p9_server.proofs.paths.let_go.Goals as goal

pub returns-then-walked-ne0-clause-released : goal.returns-then-walked-ne0-clause-released
returns-then-walked-ne0-clause-released g c =
    own_released (g.H.Host.holds c.args.host.now) (g.H.Host.holds c.release.new.self) c.args.walked
    c.args.at c.if-walked-ne0.true c.requires c.release.ensures.holds

pub returns-then-walked-ne0-clause-kept : goal.returns-then-walked-ne0-clause-kept
returns-then-walked-ne0-clause-kept g c kept =
    c.release.ensures.tree ∙ keep_same (g.H.Host.tree c.args.host.now)
    (is_held (g.H.Host.holds c.release.new.self)) kept
