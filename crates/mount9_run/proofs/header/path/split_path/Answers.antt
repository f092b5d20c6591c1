-- The name behind the last slash is one of the path's.
use Rattle.mount9_run.proofs.HeaderPlaces.{name_behind}
use Rattle.mount9_run.proofs.header.path.split_path.Goals as goal

pub returns-in-Some-clause-named : goal.returns-in-Some-clause-named
returns-in-Some-clause-named c = name_behind c.args.path.now c.in-Some.i c.requires
    c.in-Some.ensures.value
