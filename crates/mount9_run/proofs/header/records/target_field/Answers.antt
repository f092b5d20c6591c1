-- A text that passes the test is a target.
use Rattle.std.proofs.Common.{sym, ap, ◌∙◌}
use Rattle.mount9_run.specs.HeaderRecords.{is_target}
use Rattle.mount9_run.proofs.HeaderPlaces.{target_in_range}
use Rattle.mount9_run.proofs.header.records.target_field.Goals as goal

pub returns-clause-good : goal.returns-clause-good
returns-clause-good c = target_in_range c.in_ok-target.target.items
    (sym (ap is_target c.deref.ensures.value) ∙ sym c.if-not-is_target.ensures)
