-- The leading component comes before the names.
use Rattle.port_base.specs.Paths.{components, lead, names}
use Rattle.port_base.proofs.PathWalks.{TakesLead-from}
use Rattle.port_base.proofs.paths.Components.take_lead.Goals as goal

pub returns-clause-lead : goal.returns-clause-lead
unfolding components
returns-clause-lead c = rw (c.if-self.false, c.lead.ensures)
    (TakesLead-from (lead c.args.self.now.rest.now) (names c.args.self.now.rest.now))
