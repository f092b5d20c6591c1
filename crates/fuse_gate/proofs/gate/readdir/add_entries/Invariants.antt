-- The entries so far were added.
use Rattle.std.specs.Prelude.{◌≡◌, take, drop, map as each}
use Rattle.p9_rmsg.specs.Dirents.{dirent_of}
use Rattle.fuse_gate.proofs.Listings.{Adding}
use Rattle.fuse_gate.proofs.gate.readdir.add_entries.Given as goal

abbrev pub invariant-loop-entry : goal.invariant-loop-entry
invariant-loop-entry l = record {
  adding : Adding l.initial.builder.end l.initial.builder.entries.now.bytes.items
      l.builder.entries.now.bytes.items (each dirent_of l.entries)
      (each dirent_of (take l.entry-index l.entries))
      (each dirent_of (drop l.entry-index l.entries)) l.cookie;
  end : l.builder.end ≡ l.initial.builder.end;
  reference : l.builder.entries.ghost_name ≡ l.initial.builder.entries.ghost_name;
}
