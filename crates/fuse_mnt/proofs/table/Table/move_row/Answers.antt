-- The mount and those below it go to the end.
use Rattle.std.proofs.Common.{◌∙◌, sym}
use Rattle.fuse_mnt.specs.contracts.rows.MountRow.{the_view as row_view}
use Rattle.fuse_mnt.specs.contracts.table.Table.{the_view}
use Rattle.fuse_mnt.proofs.LookupLemmas.{moves_as}
use Rattle.fuse_mnt.proofs.table.Table.move_row.Goals as goal

pub returns-in-Ok-clause-leaves : goal.returns-in-Ok-clause-leaves
returns-in-Ok-clause-leaves c call target = moves_as c.args.source.now c.args.target.now call
    (the_view c.self.inside) c.args.self.now c.args.at (row_view c.behind-self.inside)
    c.in-Ok.rows.items c.self.view_is c.requires target
    (sym c.same_path.ensures.value ∙ c.if-same_path.false)
    (sym c.path_starts_with.ensures ∙ c.if-path_starts_with.false)
    (rw c.behind-self.view_is c.index.ensures)
    (rw c.deref.ensures.value at c.in-Ok.ensures)
