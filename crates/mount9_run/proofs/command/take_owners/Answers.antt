-- An owner comes once.
use Rattle.std.proofs.Common.{sym}
use Rattle.mount9_run.proofs.OwnerWords.{owner_twice, owner_once}
use Rattle.mount9_run.proofs.command.take_owners.Goals as goal

pub returns-then-contains_key : goal.returns-then-contains_key
returns-then-contains_key c = owner_twice c.args.ids.now.entries c.in-Some.id c.in-Some.shown _
    c.in-Some.ensures (sym c.if-contains_key.ensures)

pub returns-in-Ok : goal.returns-in-Ok
returns-in-Ok c = owner_once c.args.ids.now.entries c.in-Some.id c.in-Some.shown _
    c.in-Some.ensures c.insert.new.self.entries (sym c.if-contains_key.ensures)
    c.in-Ok.ensures.updates.0
