-- A pair more.
use Rattle.std.specs.FinMap.{from_entries}
use Rattle.port_base.proofs.TableViews.{insert_view}
use Rattle.p9_server.proofs.JsonIds.{next_pair}
use Rattle.p9_server.proofs.config_json.ids_from.Goals as goal

pub loop-name-preserved : goal.loop-name-preserved
loop-name-preserved c =
    let l = c.loop-name in
    next_pair (from_entries l.ids.entries) (from_entries c.insert.new.self.entries)
    c.in-Some.name.now c.in-Some.shown.now c.as_str.result.now l.name-iterator c.next.new.self
    _ c.in-Some-id_of.id c.in-Some-u32_of.shown c.in-Some.ensures.steps c.as_str.ensures.value
    l.invariant c.in-Some-id_of.ensures c.in-Some-u32_of.ensures
    (insert_view l.ids.entries c.insert.new.self.entries c.in-Some-id_of.id
    c.in-Some-u32_of.shown c.in_ok-insert.ensures.updates.0)
