-- The last row at the target goes.
use Rattle.std.proofs.Common.{refl, sym}
use Rattle.fuse_mnt.proofs.LookupLemmas.{unmounted, unmounted_busy, unmounted_none}
use Rattle.fuse_mnt.proofs.table.Table.umount.Goals as goal

pub returns-then-is_busy-clause-leaves : goal.returns-then-is_busy-clause-leaves
returns-then-is_busy-clause-leaves c = record {
  exactly = (
    rw (← c.self.view_is) (unmounted_busy c.args.target.now _ c.in-Some.at
        (rw c.deref.ensures.value at c.in-Some.ensures)
        (sym (rw (c.if-is_busy.true, c.deref-in-Some.ensures.value) at c.is_busy.ensures))),
    refl,
  );
}

pub returns-else-is_busy-clause-leaves : goal.returns-else-is_busy-clause-leaves
returns-else-is_busy-clause-leaves c = record {
  exactly = rw (← c.self.view_is, c.remove.ensures.by_index.2) (unmounted c.args.target.now _
      c.in-Some.at (rw c.deref.ensures.value at c.in-Some.ensures)
      (sym (rw (c.if-is_busy.false, c.deref-in-Some.ensures.value) at c.is_busy.ensures)));
}

pub returns-in-None-clause-leaves : goal.returns-in-None-clause-leaves
returns-in-None-clause-leaves c = record {
  exactly = (
    rw (← c.self.view_is) (unmounted_none c.args.target.now _
        (rw c.deref.ensures.value at c.in-None.ensures)),
    refl,
  );
}
