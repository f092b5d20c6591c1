-- All rows were looked at.
use Rattle.std.proofs.Common.{◌∙◌, ap, slice_index_or}
use Rattle.std.proofs.lemmas.List.{take_all}
use Rattle.std.specs.List.{fold}
use Rattle.libmount.specs.MountTables.{nearer, root_mount}
use Rattle.fuse_mnt.proofs.LookupLemmas.{cover_folded}
use Rattle.fuse_mnt.proofs.lookups.cover.Goals as goal

pub returns : goal.returns
returns c = c.loop-row.invariant
    ∙ ap (fold (nearer c.args.path.now) (slice_index_or c.args.rows.now 0 root_mount))
    (take_all _ _ c.loop-row-test.false) ∙ cover_folded c.args.path.now c.args.rows.now c.requires
