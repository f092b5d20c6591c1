-- Each entry is added behind those before, until one has no room.
use Rattle.std.proofs.Common.{◌+◌, ◌∙◌, List, sym, subst, take, drop, true, false}
use Rattle.std.specs.Prelude.{map as each}
use Rattle.p9_rmsg.specs.Dirents.{Entry as Dirent, dirent_of}
use Rattle.fuse_gate.proofs.Listings.{Adding, adds_one, adds_full, adds_as, rest_at, front_at}
use Rattle.fuse_gate.proofs.gate.readdir.add_entries.Goals as goal

pub returns-then-add-clause-added : goal.returns-then-add-clause-added
returns-then-add-clause-added c =
    adds_full (dirent_of c.entry-item.result)
    (each dirent_of (drop (c.loop-entry.entry-index + 1) c.args.entries.now))
    (subst (λ (ds : List Dirent). Adding c.args.builder.now.end c.args.builder.now.entries.now.bytes.items
    c.loop-entry.builder.entries.now.bytes.items
    (each dirent_of c.args.entries.now)
    (each dirent_of (take c.loop-entry.entry-index c.args.entries.now)) ds c.loop-entry.cookie)
    (rest_at c.args.entries.now c.loop-entry.entry-index c.entry-item.result
    c.loop-entry-test.true c.entry-item.is) c.loop-entry.invariant.adding)
    c.add.new.self.entries.now.bytes.items
    (adds_as c.loop-entry.builder.end c.args.builder.now.end c.loop-entry.invariant.end
    c.loop-entry.builder.entries.now c.add.new.self.entries.now true c.entry-item.result.qid.path c.entry-item.result.offset c.entry-item.result.ty
    c.entry-item.result.name c.as_bytes-name.result.now c.file_type-kind.result
    c.file_type-kind.ensures c.as_bytes-name.ensures.bytes c.if-add.ensures.added)

pub loop-entry-preserved : goal.loop-entry-preserved
loop-entry-preserved c = record {
  adding =
      subst (λ (ds : List Dirent). Adding c.args.builder.now.end c.args.builder.now.entries.now.bytes.items
      c.add.new.self.entries.now.bytes.items
      (each dirent_of c.args.entries.now) ds
      (each dirent_of (drop (c.loop-entry.entry-index + 1) c.args.entries.now))
      c.entry-item.result.offset)
      (sym (front_at c.args.entries.now c.loop-entry.entry-index c.entry-item.result
      c.loop-entry-test.true c.entry-item.is))
      (adds_one (dirent_of c.entry-item.result)
      (each dirent_of (drop (c.loop-entry.entry-index + 1) c.args.entries.now))
      (subst (λ (ds : List Dirent). Adding c.args.builder.now.end c.args.builder.now.entries.now.bytes.items
      c.loop-entry.builder.entries.now.bytes.items
      (each dirent_of c.args.entries.now)
      (each dirent_of (take c.loop-entry.entry-index c.args.entries.now)) ds c.loop-entry.cookie)
      (rest_at c.args.entries.now c.loop-entry.entry-index c.entry-item.result
      c.loop-entry-test.true c.entry-item.is) c.loop-entry.invariant.adding)
      c.add.new.self.entries.now.bytes.items
      (adds_as c.loop-entry.builder.end c.args.builder.now.end c.loop-entry.invariant.end
      c.loop-entry.builder.entries.now c.add.new.self.entries.now false c.entry-item.result.qid.path c.entry-item.result.offset c.entry-item.result.ty
      c.entry-item.result.name c.as_bytes-name.result.now c.file_type-kind.result
      c.file_type-kind.ensures c.as_bytes-name.ensures.bytes c.if-add.ensures.added));
  end = c.if-add.ensures.end ∙ c.loop-entry.invariant.end;
  reference = c.if-add.ensures.same_reference ∙ c.loop-entry.invariant.reference;
}
