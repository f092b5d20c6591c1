-- An entry that is longer than what is left has no room; one that isn't has it in the listing too.
use Rattle.std.proofs.Common.{◌+◌, ◌≤◌, length, refl, arith}
use Rattle.fuse_wire.specs.Listing.{dirent_bytes}
use Rattle.fuse_wire.proofs.Sizes.{length-dirent_bytes}
use Rattle.fuse_wire.proofs.Inside.{added_inside, ends_inside}
use Rattle.fuse_wire.proofs.listing.DirEntListBuilder.add.Goals as goal

pub returns-then-padded_size-self-clause-added : goal.returns-then-padded_size-self-clause-added
returns-then-padded_size-self-clause-added c =
    let long = length-dirent_bytes c.args.ino.0 c.args.offset c.args.kind c.args.name.now in
    (omega (arith, long, c.if-padded_size-self.true, c.args.self.now.entries.now.bytes.ok.0), refl)

pub invariant_of-self-2 : goal.invariant_of-self-2
invariant_of-self-2 c =
    let entry = dirent_bytes c.args.ino.0 c.args.offset c.args.kind c.args.name.now in
    let long = length-dirent_bytes c.args.ino.0 c.args.offset c.args.kind c.args.name.now in
    let old = c.args.self.now.entries.now in
    let inside = c.args.self.now.inside in
    let room : length old.bytes.items + length entry ≤ c.args.self.now.end =
    omega (arith, long, c.if-padded_size-self.false, old.bytes.ok.0) in
    let k = ends_inside entry c.args.self.now.end old c.add.new.self room inside c.add.result
    c.add.ensures in
    record {
      inside = omega (arith, k.0, inside);
      before = omega (arith, k.1, c.add.new.self.bytes.ok.0);
    }

pub returns-clause-added : goal.returns-clause-added
returns-clause-added c =
    let entry = dirent_bytes c.args.ino.0 c.args.offset c.args.kind c.args.name.now in
    let long = length-dirent_bytes c.args.ino.0 c.args.offset c.args.kind c.args.name.now in
    let old = c.args.self.now.entries.now in
    let room : length old.bytes.items + length entry ≤ c.args.self.now.end =
    omega (arith, long, c.if-padded_size-self.false, old.bytes.ok.0) in
    added_inside entry c.args.self.now.end old c.add.new.self room c.args.self.now.inside
    c.add.result c.add.ensures
