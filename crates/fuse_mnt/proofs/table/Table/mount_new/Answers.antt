-- The new file system is added, or there was no memory.
use Rattle.fuse_mnt.proofs.table.Table.mount_new.Goals as goal

pub returns-in-Ok-clause-leaves : goal.returns-in-Ok-clause-leaves
returns-in-Ok-clause-leaves c call source target flags options = record {
  exactly = c.in-Ok.ensures.added call source target flags options;
}
