-- The name has the cookie, and every other name keeps its own.
use Rattle.std.proofs.Common.{Some}
use Rattle.tree_host.proofs.Indexing.{updated}
use Rattle.tree_host.proofs.listing.give_cookie.Goals as goal

pub returns-clause-ok : goal.returns-clause-ok
returns-clause-ok c = updated c.args.name.items c.args.index.now c.insert.new.self
    (Some c.args.cookie) c.in_ok-insert.ensures.updates
