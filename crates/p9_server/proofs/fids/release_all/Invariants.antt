-- What the fids that are left keep of the tree.
use Rattle.std.proofs.Common.{◌≡◌}
use Rattle.std.specs.FinMap as map
use Rattle.p9_server.proofs.Releasing.{Releasing}
use Rattle.p9_server.proofs.fids.release_all.Given as goal

abbrev pub invariant-loop-state : goal.invariant-loop-state
invariant-loop-state g l = record {
  left : Releasing (g.H.Host.tree l.initial.host) (g.H.Host.tree l.host) (g.H.Host.holds l.host)
      l.fids;
  calls : g.H.Host.calls l.host ≡ g.H.Host.calls l.initial.host;
}

abbrev pub decreases-loop-state : goal.decreases-loop-state
decreases-loop-state g l = map.len l.fids
