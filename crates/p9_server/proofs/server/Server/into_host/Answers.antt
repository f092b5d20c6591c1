-- Without fids the linked records are left.
use Rattle.std.proofs.Common.{◌∙◌}
use Rattle.p9_server.proofs.Emptying.{keep_linked}
use Rattle.p9_server.proofs.server.Server.into_host.Goals as goal

pub returns-clause-tree : goal.returns-clause-tree
returns-clause-tree g c = c.release_all.ensures.tree ∙ keep_linked (g.H.Host.tree c.args.self.host)
