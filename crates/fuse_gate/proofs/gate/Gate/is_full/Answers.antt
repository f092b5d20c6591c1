-- The gate counts its node ids and handles.
use Rattle.fuse_gate.proofs.Standings.{full_by, full_else}
use Rattle.fuse_gate.proofs.gate.Gate.is_full.Goals as goal

pub returns-then-self-fid_limit-clause-full : goal.returns-then-self-fid_limit-clause-full
returns-then-self-fid_limit-clause-full g c =
    full_by c.requires c.fid_limit.result c.fid_limit.ensures c.if-self-fid_limit.true

pub returns-else-self-fid_limit-clause-full : goal.returns-else-self-fid_limit-clause-full
returns-else-self-fid_limit-clause-full g c =
    full_else c.requires c.fid_limit.result c.fid_limit.ensures c.if-self-fid_limit.false
