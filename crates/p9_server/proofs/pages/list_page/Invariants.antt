-- What is there of a page, and the entries that have room behind it.
use Rattle.std.proofs.Common.{◌≡◌, ◌-◌, length}
use Rattle.p9_server.proofs.PageSteps.{Listing}
use Rattle.p9_server.proofs.pages.list_page.Given as goal

abbrev pub invariant-entries : goal.invariant-entries
invariant-entries g l = record {
  listing : Listing (g.H.Host.tree l.initial.host) l.dir l.offset l.room l.cookie l.bytes.items;
  tree : g.H.Host.tree l.host ≡ g.H.Host.tree l.initial.host;
  holds : g.H.Host.holds l.host ≡ g.H.Host.holds l.initial.host;
  faults : (g.H.Host.calls l.host).faults ≡ (g.H.Host.calls l.initial.host).faults;
  steady : (g.H.Host.calls l.host).steady ≡ (g.H.Host.calls l.initial.host).steady;
}

abbrev pub decreases-entries : goal.decreases-entries
decreases-entries g l = l.room - length l.bytes.items
