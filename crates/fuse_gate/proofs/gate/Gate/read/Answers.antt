-- A handle is refused that isn't there, is a directory or is open to be written alone; else its
-- file is read.
use Rattle.std.proofs.Common.{None, sym, ◌∙◌, arith}
use Rattle.fuse_wire.specs.Request.{read}
use Rattle.fuse_wire.specs.Answers.{rest_of}
use Rattle.fuse_gate.specs.Desks.{bytes_told}
use Rattle.fuse_gate.proofs.Asking.{ok_map}
use Rattle.fuse_gate.proofs.Desks.{behind_none}
use Rattle.fuse_gate.proofs.Standings.{handle_below}
use Rattle.fuse_gate.proofs.Serving.{refused_before}
use Rattle.fuse_gate.proofs.Reading.{read_unknown, read_directory, read_write_only, reads_file}
use Rattle.fuse_gate.proofs.Reading.{read_served}
use Rattle.fuse_gate.proofs.gate.Gate.read.Goals as goal

pub returns-in_default-clause-served : goal.returns-in_default-clause-served
returns-in_default-clause-served g c =
    refused_before c.requires (g.met.N.Nine.good c.args.nine.now) 0
    (read c.args.handle c.args.offset c.args.size 0 None) _
    (read_unknown (g.N.Nine.at c.args.nine.now) c.requires c.args.handle c.args.offset
    c.args.size (sym (c.in_default.ensures ∙ c.get.ensures)))

pub returns-then-found-clause-served : goal.returns-then-found-clause-served
returns-then-found-clause-served g c =
    refused_before c.requires (g.met.N.Nine.good c.args.nine.now) 0
    (read c.args.handle c.args.offset c.args.size 0 None) _
    (read_directory (g.N.Nine.at c.args.nine.now) c.requires c.args.handle c.args.offset
    c.args.size c.in-Some.found (sym (c.in-Some.ensures ∙ c.get.ensures)) c.if-found.true)

pub returns-then-found-eq-O_WRONLY-clause-served : goal.returns-then-found-eq-O_WRONLY-clause-served
returns-then-found-eq-O_WRONLY-clause-served g c =
    refused_before c.requires (g.met.N.Nine.good c.args.nine.now) 0
    (read c.args.handle c.args.offset c.args.size 0 None) _
    (read_write_only (g.N.Nine.at c.args.nine.now) c.requires c.args.handle c.args.offset
    c.args.size c.in-Some.found (sym (c.in-Some.ensures ∙ c.get.ensures)) c.if-found.false
    c.if-found-eq-O_WRONLY.true)

pub overflow_cast-handle : goal.overflow_cast-handle
overflow_cast-handle g c = let low = handle_below c.requires c.args.handle c.in-Some.found
    (sym (c.in-Some.ensures ∙ c.get.ensures)) in omega arith

pub read_pieces-requires-clause-opened : goal.read_pieces-requires-clause-opened
read_pieces-requires-clause-opened g c =
    reads_file (g.N.Nine.at c.args.nine.now) c.requires c.args.handle c.args.offset c.args.size
    c.in-Some.found (sym (c.in-Some.ensures ∙ c.get.ensures)) c.if-found.false
    c.if-found-eq-O_WRONLY.false

pub returns-clause-served : goal.returns-clause-served
returns-clause-served g c =
    ok_map (bytes_told (rest_of c.args.out.now.items c.read_pieces.new.out.items)
    c.read_pieces.result) _ _
    (λ r served. read_served (g.N.Nine.at c.args.nine.now) c.requires c.args.handle c.args.offset
    c.args.size c.in-Some.found (sym (c.in-Some.ensures ∙ c.get.ensures)) c.if-found.false
    c.if-found-eq-O_WRONLY.false (g.met.N.Nine.good c.args.nine.now) c.min.result c.min.ensures
    _ _ served)
    c.read_pieces.ensures.served

pub returns-in_default-clause-appended : goal.returns-in_default-clause-appended
returns-in_default-clause-appended g c = behind_none c.args.out.now.items

pub returns-then-found-clause-appended : goal.returns-then-found-clause-appended
returns-then-found-clause-appended g c = behind_none c.args.out.now.items

pub returns-then-found-eq-O_WRONLY-clause-appended : goal.returns-then-found-eq-O_WRONLY-clause-appended
returns-then-found-eq-O_WRONLY-clause-appended g c = behind_none c.args.out.now.items
