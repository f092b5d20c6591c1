-- Requests by their number.
use Rattle.std.specs.Prelude.{ℕ, Bool, ◌==◌, ◌||◌}
use Rattle.fuse_wire.specs.declared.opcode.TheConstants.{FUSE_FORGET, FUSE_INTERRUPT}
use Rattle.fuse_wire.specs.declared.opcode.TheConstants.{FUSE_BATCH_FORGET}

-- a request that never gets a reply
abbrev pub is_silent : ℕ → Bool
is_silent opcode =
    (opcode == FUSE_FORGET) || (opcode == FUSE_INTERRUPT) || (opcode == FUSE_BATCH_FORGET)
