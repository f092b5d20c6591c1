-- Where no mount is at the source, none moves.
use Rattle.std.proofs.Common.{refl}
use Rattle.fuse_mnt.specs.contracts.table.Table.{the_view}
use Rattle.fuse_mnt.proofs.LookupLemmas.{not_moves}
use Rattle.fuse_mnt.proofs.table.Table.move_mount.Goals as goal

pub returns-in-None-clause-leaves : goal.returns-in-None-clause-leaves
returns-in-None-clause-leaves c call target = record {
  exactly = (
    not_moves c.args.source.now call (the_view c.self.inside) c.args.self.now c.self.view_is
        (rw c.deref.ensures.value at c.in-None.ensures),
    refl,
  );
}
