-- A builder that is limited lists in the lesser of its room and what one request reads.
use Rattle.std.proofs.Common.{◌≡◌, ℕ, List, min, length, refl, subst, ap, ◌∙◌, None, arith}
use Rattle.std.proofs.Common.{OnErr}
use Rattle.fuse_wire.specs.Answers.{listed_by, rest_of}
use Rattle.fuse_wire.specs.Request.{readdir}
use Rattle.fuse_wire.specs.declared.protocol.TheConstants.{MAX_READ}
use Rattle.fuse_gate.specs.Desks.{AnswersAs, IsFrontOf, bytes_told, listing_of, room_of}
use Rattle.fuse_gate.proofs.Desks.{told_ready, left_as_was}
use Rattle.fuse_gate.proofs.gate.desk.DeskAsyncFilesystem.readdir.Goals as goal

pub returns-clause-told : goal.returns-clause-told
returns-clause-told g c =
    let now = listed_by c.readdir.new.builder.entries.now in
    let same : listed_by c.limit.new.self.entries.now ≡ listed_by c.args.builder.now.entries.now =
    ap listed_by c.limit.ensures.entries in
    let room : room_of c.limit.new.self ≡ min (room_of c.args.builder.now) MAX_READ =
    (let long = ap length same in
    omega (arith, long, c.limit.ensures.end, c.args.builder.now.entries.now.bytes.ok.0)) in (
      refl,
      refl,
      (λ size is. subst (λ (xs : List ℕ). AnswersAs 0
          (readdir c.args.file_handle.0 c.args.offset size 0 None)
          (bytes_told (rest_of xs now) c.readdir.result)
          (c.args.self.now.gate.now, g.N.Nine.at c.args.self.now.nine.now)
          (c.readdir.new.self, g.N.Nine.at c.readdir.new.nine)) same (record {
            served = c.readdir.ensures.served size (room ∙ is);
            unfinished = left_as_was _ c.readdir.result _ c.readdir.ensures.unfinished;
            kept = c.readdir.ensures.kept;
          })),
      subst (λ (k : ℕ). OnErr c.readdir.result (IsFrontOf
          (rest_of (listed_by c.args.builder.now.entries.now) now)
          (listing_of (g.N.Nine.at c.args.self.now.nine.now).state c.args.file_handle.0 c.args.offset k)))
          room
          (subst (λ (xs : List ℕ). OnErr c.readdir.result (IsFrontOf (rest_of xs now)
          (listing_of (g.N.Nine.at c.args.self.now.nine.now).state c.args.file_handle.0 c.args.offset
          (room_of c.limit.new.self)))) same c.readdir.ensures.front),
    )

pub returns-clause-ready : goal.returns-clause-ready
returns-clause-ready g c =
    let same : listed_by c.limit.new.self.entries.now ≡ listed_by c.args.builder.now.entries.now =
    ap listed_by c.limit.ensures.entries in
    let room : room_of c.limit.new.self ≡ min (room_of c.limit.new.self) MAX_READ =
    (let long = ap length same in
    omega (arith, long, c.limit.ensures.end, c.args.builder.now.entries.now.bytes.ok.0)) in
    told_ready (rest_of (listed_by c.limit.new.self.entries.now)
    (listed_by c.readdir.new.builder.entries.now)) c.readdir.result _ _
    (λ reply served. served.stands) (c.readdir.ensures.served (room_of c.limit.new.self) room)
