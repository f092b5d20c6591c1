-- A handle is there or not.
use Rattle.std.proofs.Common.{sym}
use Rattle.fuse_wire.specs.Request.{flush}
use Rattle.fuse_gate.proofs.Standings.{none_there, some_there}
use Rattle.fuse_gate.proofs.Serving.{refused_before}
use Rattle.fuse_gate.proofs.LettingGo.{handle_refused, flush_known}
use Rattle.fuse_gate.proofs.gate.Gate.flush.Goals as goal

pub returns-then-contains_key-clause-served : goal.returns-then-contains_key-clause-served
returns-then-contains_key-clause-served c n st good = let h =
    some_there _ (sym c.if-contains_key.ensures) in flush_known n st good c.args.handle h.0 h.1

pub returns-else-contains_key-clause-served : goal.returns-else-contains_key-clause-served
returns-else-contains_key-clause-served c n st good =
    refused_before st good 0 (flush c.args.handle) _
    (handle_refused n st good c.args.handle (none_there _ (sym c.if-contains_key.ensures)))
