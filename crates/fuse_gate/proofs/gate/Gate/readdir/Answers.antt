-- A handle is refused that isn't there, or isn't a directory; else its directory is listed.
use Rattle.std.proofs.Common.{None, sym, ◌∙◌, arith}
use Rattle.fuse_wire.specs.Request.{readdir}
use Rattle.fuse_wire.specs.Answers.{listed_by, rest_of}
use Rattle.fuse_gate.specs.Desks.{bytes_told, room_of}
use Rattle.fuse_gate.proofs.Asking.{ok_map}
use Rattle.fuse_gate.proofs.Desks.{behind_none, front_none}
use Rattle.fuse_gate.proofs.Standings.{handle_below}
use Rattle.fuse_gate.proofs.Serving.{refused_before}
use Rattle.fuse_gate.proofs.ListingHandles.{readdir_unknown, readdir_file, lists_directory}
use Rattle.fuse_gate.proofs.ListingHandles.{readdir_served}
use Rattle.fuse_gate.proofs.gate.Gate.readdir.Goals as goal

pub returns-in_default-clause-served : goal.returns-in_default-clause-served
returns-in_default-clause-served g c size is =
    refused_before c.requires (g.met.N.Nine.good c.args.nine.now) 0
    (readdir c.args.handle c.args.offset size 0 None) _
    (readdir_unknown (g.N.Nine.at c.args.nine.now) c.requires c.args.handle
    (sym (c.in_default.ensures ∙ c.get.ensures)))

pub returns-then-found-clause-served : goal.returns-then-found-clause-served
returns-then-found-clause-served g c size is =
    refused_before c.requires (g.met.N.Nine.good c.args.nine.now) 0
    (readdir c.args.handle c.args.offset size 0 None) _
    (readdir_file (g.N.Nine.at c.args.nine.now) c.requires c.args.handle
    c.in-Some.found (sym (c.in-Some.ensures ∙ c.get.ensures)) c.if-found.true)

pub overflow_cast-handle : goal.overflow_cast-handle
overflow_cast-handle g c = let low = handle_below c.requires c.args.handle c.in-Some.found
    (sym (c.in-Some.ensures ∙ c.get.ensures)) in omega arith

pub list_pages-requires-clause-opened : goal.list_pages-requires-clause-opened
list_pages-requires-clause-opened g c =
    lists_directory (g.N.Nine.at c.args.nine.now) c.requires c.args.handle
    c.in-Some.found (sym (c.in-Some.ensures ∙ c.get.ensures)) c.if-found.false

pub returns-clause-served : goal.returns-clause-served
returns-clause-served g c size is =
    ok_map (bytes_told (rest_of (listed_by c.args.builder.now.entries.now)
    (listed_by c.list_pages.new.builder.entries.now)) c.list_pages.result) _ _
    (λ r served. readdir_served (g.N.Nine.at c.args.nine.now) c.requires c.args.handle
    c.in-Some.found (sym (c.in-Some.ensures ∙ c.get.ensures)) c.if-found.false
    (g.met.N.Nine.good c.args.nine.now) c.args.offset size (room_of c.args.builder.now) is
    _ _ served)
    c.list_pages.ensures.served

pub returns-in_default-clause-added : goal.returns-in_default-clause-added
returns-in_default-clause-added g c = behind_none (listed_by c.args.builder.now.entries.now)

pub returns-in_default-clause-front : goal.returns-in_default-clause-front
returns-in_default-clause-front g c = front_none (listed_by c.args.builder.now.entries.now) _

pub returns-then-found-clause-added : goal.returns-then-found-clause-added
returns-then-found-clause-added g c = behind_none (listed_by c.args.builder.now.entries.now)

pub returns-then-found-clause-front : goal.returns-then-found-clause-front
returns-then-found-clause-front g c = front_none (listed_by c.args.builder.now.entries.now) _
