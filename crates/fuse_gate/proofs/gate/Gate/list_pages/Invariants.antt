-- So far whole messages were listed, behind what was there.
use Rattle.std.proofs.Common.{◌≡◌, ◌-◌, length}
use Rattle.fuse_wire.specs.Answers.{listed_by, rest_of}
use Rattle.fuse_gate.specs.Desks.{AddsListed, room_of}
use Rattle.fuse_gate.specs.Standing.{piece_of}
use Rattle.fuse_gate.specs.Listings.{directory_at}
use Rattle.fuse_gate.proofs.ListingPages.{Paging}
use Rattle.fuse_gate.proofs.gate.Gate.list_pages.Given as goal

abbrev pub invariant-pages : goal.invariant-pages
invariant-pages g l = record {
  paging : Paging (g.N.Nine.at l.initial.nine).state.tree
      (directory_at (g.N.Nine.at l.initial.nine).state l.fid)
      (piece_of (g.N.Nine.at l.initial.nine).state) l.offset (room_of l.initial.builder)
      l.initial.self (g.N.Nine.at l.initial.nine) l.self (g.N.Nine.at l.nine) l.cookie
      (rest_of (listed_by l.initial.builder.entries.now) (listed_by l.builder.entries.now));
  behind : AddsListed l.initial.builder.entries.now l.builder.entries.now;
  end : l.builder.end ≡ l.initial.builder.end;
  reference : l.builder.entries.ghost_name ≡ l.initial.builder.entries.ghost_name;
}

abbrev pub decreases-pages : goal.decreases-pages
decreases-pages g l = l.builder.end - length (listed_by l.builder.entries.now)
