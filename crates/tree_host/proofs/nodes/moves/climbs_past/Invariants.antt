-- What the rest of the climb answers is what the whole does.
use Rattle.std.proofs.Common.{◌≡◌, ◌-◌}
use Rattle.tree_model.specs.Renaming.{climbs_past}
use Rattle.tree_host.proofs.nodes.moves.climbs_past.Given as goal

abbrev pub invariant-loop : goal.invariant-loop
invariant-loop l = climbs_past l.nodes l.ino (l.steps - l.counter) l.at ≡ climbs_past l.nodes l.ino
    l.steps l.dir
