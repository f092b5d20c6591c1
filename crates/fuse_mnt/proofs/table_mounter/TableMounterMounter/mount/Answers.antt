-- A mount keeps the table good, and doesn't fault.
use Rattle.fuse_mnt.proofs.KeptLemmas.{caused_by_none, mounted_kept}
use Rattle.fuse_mnt.proofs.table_mounter.TableMounterMounter.mount.Goals as goal

pub invariant_of-self-2 : goal.invariant_of-self-2
invariant_of-self-2 c = record {
  kept = mounted_kept _ _ _ c.mount.result c.args.self.now.kept c.requires.room
      c.mount.ensures.leaves;
}

pub returns-clause-caused : goal.returns-clause-caused
returns-clause-caused c =
    caused_by_none _ _ c.mount.result (c.strikes.ensures.none c.if-strikes.false)
    c.mount.ensures.fault
