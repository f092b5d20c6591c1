-- The gate counts its node ids and handles.
use Rattle.std.proofs.Common.{arith}
use Rattle.fuse_gate.proofs.Standings.{in_all}
use Rattle.fuse_gate.proofs.Creations.{two_by, two_else}
use Rattle.fuse_gate.proofs.gate.Gate.lacks_two.Goals as goal

pub overflow_add-self : goal.overflow_add-self
overflow_add-self g c =
    let all = in_all c.requires in
    let within = c.requires.good.within in
    let is = c.fid_limit.ensures in
    let low = c.fid_limit.type_inv in
    omega (arith, all, within, is, low)

pub returns-then-fid_limit-self-clause-full : goal.returns-then-fid_limit-self-clause-full
returns-then-fid_limit-self-clause-full g c =
    two_by c.requires c.fid_limit.result c.fid_limit.ensures c.if-fid_limit-self.true

pub returns-else-fid_limit-self-clause-full : goal.returns-else-fid_limit-self-clause-full
returns-else-fid_limit-self-clause-full g c =
    two_else c.requires c.fid_limit.result c.fid_limit.ensures c.if-fid_limit-self.false
