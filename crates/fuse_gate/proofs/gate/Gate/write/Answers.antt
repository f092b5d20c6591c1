-- A handle is refused that isn't there or is open to be read alone; else its file is written.
use Rattle.std.proofs.Common.{sym, ◌∙◌, arith}
use Rattle.fuse_wire.specs.Request.{write}
use Rattle.fuse_gate.proofs.Asking.{err_map, ok_map}
use Rattle.fuse_gate.proofs.Standings.{handle_below}
use Rattle.fuse_gate.proofs.Serving.{refused_before}
use Rattle.fuse_gate.proofs.WritingHandles.{write_unknown, write_read_only, writes_file}
use Rattle.fuse_gate.proofs.WritingHandles.{write_part, write_served}
use Rattle.fuse_gate.proofs.gate.Gate.write.Goals as goal

pub returns-in_default-clause-served : goal.returns-in_default-clause-served
returns-in_default-clause-served g c =
    refused_before c.requires (g.met.N.Nine.good c.args.nine.now) 0
    (write c.args.handle c.args.offset c.args.bytes.now) _
    (write_unknown (g.N.Nine.at c.args.nine.now) c.requires c.args.handle c.args.offset
    c.args.bytes.now (sym (c.in_default.ensures ∙ c.get.ensures)))

pub returns-then-found-eq-O_RDONLY-clause-served : goal.returns-then-found-eq-O_RDONLY-clause-served
returns-then-found-eq-O_RDONLY-clause-served g c =
    refused_before c.requires (g.met.N.Nine.good c.args.nine.now) 0
    (write c.args.handle c.args.offset c.args.bytes.now) _
    (write_read_only (g.N.Nine.at c.args.nine.now) c.requires c.args.handle c.args.offset
    c.args.bytes.now c.in-Some.found (sym (c.in-Some.ensures ∙ c.get.ensures))
    c.if-found-eq-O_RDONLY.true)

pub overflow_cast-handle : goal.overflow_cast-handle
overflow_cast-handle g c = let low = handle_below c.requires c.args.handle c.in-Some.found
    (sym (c.in-Some.ensures ∙ c.get.ensures)) in omega arith

pub write_pieces-requires-clause-opened : goal.write_pieces-requires-clause-opened
write_pieces-requires-clause-opened g c =
    writes_file (g.N.Nine.at c.args.nine.now) c.requires c.args.handle c.args.offset
    c.args.bytes.now c.in-Some.found (sym (c.in-Some.ensures ∙ c.get.ensures))
    c.if-found-eq-O_RDONLY.false

pub returns-clause-served : goal.returns-clause-served
returns-clause-served g c =
    ok_map c.write_pieces.result _ _
    (λ r served. write_served (g.N.Nine.at c.args.nine.now) c.requires c.args.handle c.args.offset
    c.args.bytes.now c.in-Some.found (sym (c.in-Some.ensures ∙ c.get.ensures))
    c.if-found-eq-O_RDONLY.false (g.met.N.Nine.good c.args.nine.now) _ _ served)
    c.write_pieces.ensures.served

pub returns-clause-unfinished : goal.returns-clause-unfinished
returns-clause-unfinished g c =
    err_map c.write_pieces.result _ _
    (λ left. write_part (g.N.Nine.at c.args.nine.now) c.requires c.args.handle c.args.offset
    c.args.bytes.now c.in-Some.found (sym (c.in-Some.ensures ∙ c.get.ensures))
    c.if-found-eq-O_RDONLY.false _ left)
    c.write_pieces.ensures.unfinished
