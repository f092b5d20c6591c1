-- The part ends where the first slash stands.
use Rattle.std.proofs.Common.{sym}
use Rattle.port_base.specs.Paths.{is_slash}
use Rattle.port_base.proofs.PathParts.{before-some, after-some, before-none, after-none}
use Rattle.fuse_mnt.proofs.paths.first_part.Goals as goal

pub returns-in-Some-clause-part : goal.returns-in-Some-clause-part
returns-in-Some-clause-part c = before-some is_slash c.args.path.now c.in-Some.at
    (sym c.in-Some.ensures)

pub returns-in-Some-clause-rest : goal.returns-in-Some-clause-rest
returns-in-Some-clause-rest c = after-some is_slash c.args.path.now c.in-Some.at
    (sym c.in-Some.ensures)

pub returns-in-None-clause-part : goal.returns-in-None-clause-part
returns-in-None-clause-part c = before-none is_slash c.args.path.now (sym c.in-None.ensures)

pub returns-in-None-clause-rest : goal.returns-in-None-clause-rest
returns-in-None-clause-rest c = after-none is_slash c.args.path.now (sym c.in-None.ensures)
