-- What is left goes on from the pairs so far.
use Rattle.std.proofs.Common.{◌≡◌}
use Rattle.std.specs.FinMap as map
use Rattle.serde_json.specs.View.{members_view}
use Rattle.p9_server.specs.ConfigJsons.{ids_from}
use Rattle.p9_server.proofs.config_json.ids_from.Given as goal

abbrev pub invariant-loop-name : goal.invariant-loop-name
invariant-loop-name l = ids_from (map.from_entries l.ids.entries) (members_view l.name-iterator)
    ≡ ids_from map.empty (members_view l.object.entries)
