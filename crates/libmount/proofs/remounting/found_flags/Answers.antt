-- A good table's text can be read.
use Rattle.std.proofs.Common.{◌∙◌}
use Rattle.libmount.proofs.PrintedLookups.{tells_flags}
use Rattle.libmount.proofs.remounting.found_flags.Goals as goal

pub returns-clause-told : goal.returns-clause-told
returns-clause-told g c =
    let printed = c.in_ok-text.ensures.told.printed in
    tells_flags (g.M.Mounter.table c.args.mounts.now) c.args.place.now c.deref.result.now
    c.flags_from.result _ _ (g.met.M.Mounter.good c.args.mounts.now)
    (c.deref.ensures.value ∙ printed.0) c.flags_from.ensures printed.1
