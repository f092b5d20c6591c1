-- The names of the target, and then those behind the place.
use Rattle.fuse_mnt.proofs.PathLemmas.{moved_whole}
use Rattle.fuse_mnt.proofs.paths.moved_path.Goals as goal

pub returns : goal.returns
returns c = moved_whole _ _ _ _ c.args.from.now c.args.to.now c.args.path.now _ c.new-out.ensures.items
    c.in_ok-push_names.ensures c.behind_names.ensures c.in_ok-push_names-2.ensures
    c.in_ok-end_path.ensures
