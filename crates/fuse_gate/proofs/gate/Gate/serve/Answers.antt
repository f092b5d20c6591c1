-- READ, READDIR, FSYNC and FSYNCDIR look at the handle alone, OPENDIR ignores its flags, and
-- INTERRUPT is passed over.
use Rattle.std.proofs.Common.{◌≡◌, ℕ, List, [], length, min, IfOk, OnErr, None, sym, subst, ap}
use Rattle.std.proofs.Common.{◌∙◌, arith}
use Rattle.fuse_wire.specs.Answers.{listed_by, rest_of}
use Rattle.fuse_wire.specs.Request.{read, readdir}
use Rattle.fuse_wire.specs.declared.protocol.TheConstants.{MAX_READ}
use Rattle.fuse_gate.specs.Desks.{bytes_told, room_of, told_as}
use Rattle.fuse_gate.proofs.Desks.{all_new, desk_served}
use Rattle.fuse_wire.specs.Body.{plain}
use Rattle.fuse_wire.specs.declared.request.Body.{Body}
use Rattle.fuse_gate.specs.Replies.{reply_of}
use Rattle.fuse_gate.specs.Steps.{ServesRequest, LeavesPartOf}
use Rattle.tree_machine.specs.Replies.Reply.{Done}
use Rattle.fuse_gate.proofs.Beginning.{passed_over}
use Rattle.fuse_gate.proofs.gate.Gate.serve.Goals as goal

pub returns-in-Read-clause-served : goal.returns-in-Read-clause-served
returns-in-Read-clause-served g c =
    let t = c.read-told.ensures.told in
    let bytes = rest_of c.new-bytes.result.items c.read-told.new.out_bytes.items in
    let all : bytes ≡ c.read-told.new.out_bytes.items = all_new c.new-bytes.result.items
    c.read-told.new.out_bytes.items c.new-bytes.ensures.items in
    subst (λ (b : Body). IfOk c.bytes_reply.result (λ reply. ServesRequest c.args.node (plain b)
    (c.args.self.now, g.N.Nine.at c.args.nine.now)
    (c.self-in-Read-1.given.0, g.N.Nine.at c.nine-in-Read-1.given.0) (reply_of reply)))
    (sym c.in-Read.is)
    (desk_served 0 (read c.in-Read.fh c.in-Read.offset c.in-Read.size 0 None)
    (bytes_told bytes c.read-told.result) c.bytes_reply.result
    (subst (λ (xs : List ℕ). told_as (bytes_told xs c.read-told.result) c.bytes_reply.result)
    (sym all) c.bytes_reply.ensures)
    c.new-in-Read.ensures.gate (ap g.N.Nine.at c.new-in-Read.ensures.nine)
    (c.self-in-Read-1.given.1 (sym (t.0 ∙ c.new-in-Read.ensures.same_gate)))
    (ap g.N.Nine.at
    (c.nine-in-Read-1.given.1 (sym (t.1 ∙ c.new-in-Read.ensures.same_nine))))
    t.2)

pub returns-in_ok-listing-in-ReadDir-clause-served :
    goal.returns-in_ok-listing-in-ReadDir-clause-served
returns-in_ok-listing-in-ReadDir-clause-served g c =
    let t = c.readdir-told.ensures.told in
    let before = listed_by c.new-in-ReadDir-3.result.entries.now in
    let now = listed_by c.readdir-told.new.builder.entries.now in
    let none : before ≡ [] = ap listed_by c.new-in-ReadDir-3.ensures.entries
    ∙ c.in_ok-listing-in-ReadDir.ensures.empty in
    let all : c.into_bytes.result.items ≡ rest_of before now =
    c.into_bytes.ensures
    ∙ ap listed_by (c.listing-in-ReadDir-2-1.given.1
    (sym (c.readdir-told.ensures.same_reference ∙ c.new-in-ReadDir-3.ensures.same_reference)))
    ∙ sym (all_new before now none) in
    let room : min (room_of c.new-in-ReadDir-3.result) MAX_READ ≡ min c.in-ReadDir.size MAX_READ =
    (let long = ap length none in omega (
      arith,
      long,
      c.new-in-ReadDir-3.ensures.end,
      c.in_ok-listing-in-ReadDir.ensures.size,
      c.min.ensures,
    )) in
    subst (λ (b : Body). IfOk c.bytes_reply-in-ReadDir.result (λ reply. ServesRequest c.args.node
    (plain b) (c.args.self.now, g.N.Nine.at c.args.nine.now)
    (c.self-in-ReadDir-1.given.0, g.N.Nine.at c.nine-in-ReadDir-1.given.0) (reply_of reply)))
    (sym c.in-ReadDir.is)
    (desk_served 0 (readdir c.in-ReadDir.fh c.in-ReadDir.offset c.in-ReadDir.size 0 None)
    (bytes_told (rest_of before now) c.readdir-told.result) c.bytes_reply-in-ReadDir.result
    (subst (λ (xs : List ℕ). told_as (bytes_told xs c.readdir-told.result)
    c.bytes_reply-in-ReadDir.result) all c.bytes_reply-in-ReadDir.ensures)
    c.new-in-ReadDir-2.ensures.gate (ap g.N.Nine.at c.new-in-ReadDir-2.ensures.nine)
    (c.self-in-ReadDir-1.given.1 (sym (t.0 ∙ c.new-in-ReadDir-2.ensures.same_gate)))
    (ap g.N.Nine.at
    (c.nine-in-ReadDir-1.given.1 (sym (t.1 ∙ c.new-in-ReadDir-2.ensures.same_nine))))
    (t.2 c.in-ReadDir.size room))

pub returns-in-OpenDir-clause-served : goal.returns-in-OpenDir-clause-served
returns-in-OpenDir-clause-served g c =
    subst (λ (b : Body). IfOk c.opendir.result (λ reply. ServesRequest c.args.node (plain b)
    (c.args.self.now, g.N.Nine.at c.args.nine.now)
    (c.opendir.new.self, g.N.Nine.at c.opendir.new.nine) (reply_of reply))) (sym c.in-OpenDir.is)
    c.opendir.ensures.served

pub returns-in-FSync-clause-served : goal.returns-in-FSync-clause-served
returns-in-FSync-clause-served g c =
    subst (λ (b : Body). IfOk c.fsync.result (λ reply. ServesRequest c.args.node (plain b)
    (c.args.self.now, g.N.Nine.at c.args.nine.now)
    (c.fsync.new.self, g.N.Nine.at c.fsync.new.nine) (reply_of reply))) (sym c.in-FSync.is)
    c.fsync.ensures.served

pub returns-in-FSyncDir-clause-served : goal.returns-in-FSyncDir-clause-served
returns-in-FSyncDir-clause-served g c =
    subst (λ (b : Body). IfOk c.fsync-in-FSyncDir.result (λ reply. ServesRequest c.args.node (plain b)
    (c.args.self.now, g.N.Nine.at c.args.nine.now)
    (c.fsync-in-FSyncDir.new.self, g.N.Nine.at c.fsync-in-FSyncDir.new.nine) (reply_of reply))) (sym c.in-FSyncDir.is)
    c.fsync-in-FSyncDir.ensures.served

pub returns-in-Interrupt-clause-served : goal.returns-in-Interrupt-clause-served
returns-in-Interrupt-clause-served g c =
    subst (λ (b : Body). ServesRequest c.args.node (plain b)
    (c.args.self.now, g.N.Nine.at c.args.nine.now)
    (c.args.self.now, g.N.Nine.at c.args.nine.now) Done) (sym c.in-Interrupt.is)
    (passed_over c.requires (g.met.N.Nine.good c.args.nine.now))

pub returns-in-Write-clause-served : goal.returns-in-Write-clause-served
returns-in-Write-clause-served g c =
    subst (λ (b : Body). IfOk c.write.result (λ reply. ServesRequest c.args.node (plain b)
    (c.args.self.now, g.N.Nine.at c.args.nine.now)
    (c.write.new.self, g.N.Nine.at c.write.new.nine) (reply_of reply))) (sym c.in-Write.is)
    c.write.ensures.served

pub returns-in-Write-clause-unfinished : goal.returns-in-Write-clause-unfinished
returns-in-Write-clause-unfinished g c =
    subst (λ (b : Body). OnErr c.write.result (LeavesPartOf c.args.node (plain b)
    (c.args.self.now, g.N.Nine.at c.args.nine.now) (g.N.Nine.at c.write.new.nine)))
    (sym c.in-Write.is) c.write.ensures.unfinished
