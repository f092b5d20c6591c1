-- A walk of no names takes one hold more where it begins.
use Rattle.p9_server.proofs.HoldCounts.{more_counts_of}
use Rattle.p9_server.proofs.paths.reach.Goals as goal

pub returns-clause-held : goal.returns-clause-held
returns-clause-held g c = more_counts_of (g.H.Host.holds c.args.host.now)
    (g.H.Host.holds c.hold_again.new.self) c.args.start c.in_ok-hold_again.ensures.held
