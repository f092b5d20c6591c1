-- An unmount keeps the table good, and doesn't fault.
use Rattle.fuse_mnt.proofs.KeptLemmas.{caused_by_none, unmounted_kept}
use Rattle.fuse_mnt.proofs.table_mounter.TableMounterMounter.umount.Goals as goal

pub invariant_of-self-2 : goal.invariant_of-self-2
invariant_of-self-2 c = record {
  kept = unmounted_kept _ _ _ c.umount.result c.args.self.now.kept c.umount.ensures.leaves;
}

pub returns-clause-caused : goal.returns-clause-caused
returns-clause-caused c =
    caused_by_none _ _ c.umount.result (c.strikes.ensures.none c.if-strikes.false)
    c.umount.ensures.fault
