-- No entry up to the cookie has the name in any case.
use Rattle.std.proofs.Common.{◌≡◌, ◌-◌, ◌^◌, ◌<◌}
use Rattle.tree_model.proofs.Folding.{HasPassed}
use Rattle.p9_server.proofs.lookup.folded_name.Given as goal

abbrev pub invariant-loop-entry : goal.invariant-loop-entry
invariant-loop-entry g l = record {
  passed : HasPassed (g.H.Host.tree l.initial.host) l.dir l.name l.cookie;
  below : l.cookie < 2 ^ 64;
  tree : g.H.Host.tree l.host ≡ g.H.Host.tree l.initial.host;
  holds : g.H.Host.holds l.host ≡ g.H.Host.holds l.initial.host;
  faults : (g.H.Host.calls l.host).faults ≡ (g.H.Host.calls l.initial.host).faults;
  steady : (g.H.Host.calls l.host).steady ≡ (g.H.Host.calls l.initial.host).steady;
}

abbrev pub decreases-loop-entry : goal.decreases-loop-entry
decreases-loop-entry g l = 2 ^ 64 - l.cookie
