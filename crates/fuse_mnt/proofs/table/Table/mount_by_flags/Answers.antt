-- The first flag of a call says what it does.
use Rattle.std.proofs.Common.{◌∙◌, ap}
use Rattle.std.specs.Prelude.{option_copied}
use Rattle.fuse_mnt.proofs.FlagLemmas.{binds, flag_known, leaves_as, mounts_new, moves, remounts}
use Rattle.fuse_mnt.proofs.table.Table.mount_by_flags.Goals as goal

pub returns-then-contains-clause-leaves : goal.returns-then-contains-clause-leaves
returns-then-contains-clause-leaves c call source target fstype flags options =
    leaves_as _ _ _ _ _ (remounts call c.args.self.now
    (flag_known _ _ _ _ _ flags c.contains.ensures c.if-contains.true))
    (c.remount.ensures.leaves call target flags)

pub returns-in-Some-clause-leaves : goal.returns-in-Some-clause-leaves
returns-in-Some-clause-leaves c call source target fstype flags options =
    leaves_as _ _ _ _ _ (binds call c.args.self.now c.in-Some.source.now
    (flag_known _ _ _ _ _ flags c.contains.ensures c.if-contains.false)
    (flag_known _ _ _ _ _ flags c.contains-2.ensures c.if-contains-2.true)
    (source ∙ ap option_copied c.in-Some.is))
    (c.bind.ensures.leaves call target flags)

pub returns-in-Some-source-clause-leaves : goal.returns-in-Some-source-clause-leaves
returns-in-Some-source-clause-leaves c call source target fstype flags options =
    leaves_as _ _ _ _ _ (moves call c.args.self.now c.in-Some-source.source.now
    (flag_known _ _ _ _ _ flags c.contains.ensures c.if-contains.false)
    (flag_known _ _ _ _ _ flags c.contains-2.ensures c.if-contains-2.false)
    (flag_known _ _ _ _ _ flags c.contains-3.ensures c.if-contains-3.true)
    (source ∙ ap option_copied c.in-Some-source.is))
    (c.move_mount.ensures.leaves call target)

pub returns-in-Some-fstype-clause-leaves : goal.returns-in-Some-fstype-clause-leaves
returns-in-Some-fstype-clause-leaves c call source target fstype flags options =
    leaves_as _ _ _ _ _ (mounts_new call c.args.self.now c.in-Some-fstype.fstype.now
    (flag_known _ _ _ _ _ flags c.contains.ensures c.if-contains.false)
    (flag_known _ _ _ _ _ flags c.contains-2.ensures c.if-contains-2.false)
    (flag_known _ _ _ _ _ flags c.contains-3.ensures c.if-contains-3.false)
    (fstype ∙ ap option_copied c.in-Some-fstype.is))
    (c.mount_new.ensures.leaves call source target flags options)
