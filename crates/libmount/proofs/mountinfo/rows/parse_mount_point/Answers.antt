-- A row without its carriage return lies in the line.
use Rattle.libmount.proofs.SliceLemmas.{found-trans}
use Rattle.libmount.proofs.mountinfo.rows.parse_mount_point.Goals as goal

pub returns-in-Ok-clause-parts : goal.returns-in-Ok-clause-parts
returns-in-Ok-clause-parts c = found-trans _ _ c.without_return.ensures.part c.in-Ok.found
    c.in-Ok.ensures.parts
