-- The lesser minor number is granted, or the version is refused.
use Rattle.fuse_wire.specs.Request.{init}
use Rattle.fuse_gate.proofs.Serving.{refused_before}
use Rattle.fuse_gate.proofs.Beginning.{init_refused, init_begun}
use Rattle.fuse_gate.proofs.gate.Gate.init.Goals as goal

pub returns-then-major-ne-FUSE_KERNEL_VERSION : goal.returns-then-major-ne-FUSE_KERNEL_VERSION
returns-then-major-ne-FUSE_KERNEL_VERSION c n st good =
    refused_before st good 0 (init c.args.major c.args.minor c.args.max_readahead 0) _
    (init_refused c.args.major c.args.minor c.then-major-ne-FUSE_KERNEL_VERSION.either)

pub returns : goal.returns
returns c n st good = init_begun c.args.major c.args.minor st good _ _
    c.if-major-ne-FUSE_KERNEL_VERSION.false c.if-minor-lt-FUSE_LEAST_MINOR.false c.min.ensures
