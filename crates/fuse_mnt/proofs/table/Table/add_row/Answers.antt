-- The row comes last, with the next number.
use Rattle.fuse_mnt.specs.contracts.rows.MountRow.{the_view}
use Rattle.fuse_mnt.proofs.MovingLemmas.{row_added}
use Rattle.fuse_mnt.proofs.table.Table.add_row.Goals as goal

pub returns-clause-added : goal.returns-clause-added
returns-clause-added c = rw (← c.self.view_is, ← c.row.view_is)
    (row_added (the_view c.row.inside) _ c.cover_id.result _
    (rw (c.deref.ensures.value, c.deref-2.ensures.value) at c.cover_id.ensures)
    c.in_ok-push_row.ensures.added)
