-- What a walk has found of the names so far.
use Rattle.std.proofs.Common.{◌≡◌, ◌≤◌, length, map, vec_capacity}
use Rattle.std.specs.List.{AllByRecursion}
use Rattle.p9_wire.specs.Values.{QidSpells}
use Rattle.p9_wire.specs.Qids.{qid_of}
use Rattle.p9_server.proofs.Walks.{Walking}
use Rattle.p9_server.proofs.paths.walk.Given as goal

abbrev pub invariant-loop-walked : goal.invariant-loop-walked
invariant-loop-walked g l = record {
  walking : Walking l.share.casefold (g.H.Host.tree l.initial.host) (g.H.Host.tree l.host)
      (g.H.Host.holds l.initial.host) (g.H.Host.holds l.host) l.names l.fn.start l.at l.walked
      l.qids.items;
  spells : AllByRecursion QidSpells (map qid_of l.qids.items);
  room : length l.names ≤ vec_capacity l.qids;
  faults : (g.H.Host.calls l.host).faults ≡ (g.H.Host.calls l.initial.host).faults;
  steady : (g.H.Host.calls l.host).steady ≡ (g.H.Host.calls l.initial.host).steady;
}
