-- Of the entries that the page spells so many were read, and the rest is left.
use Rattle.std.proofs.Common.{List, length}
use Rattle.std.specs.Prelude.{map as each}
use Rattle.p9_rmsg.specs.Dirents.{Entry, dirent_of}
use Rattle.p9_client.specs.Listing.{AreSpelled}
use Rattle.p9_client.proofs.Listed.{IsReadTo}
use Rattle.p9_client.proofs.listing.entries_in.Given as goal

abbrev pub invariant-entries : goal.invariant-entries
invariant-entries l = (es : List Entry) → AreSpelled es l.fn.page
    → IsReadTo es (each dirent_of l.entries.items) l.source.rest.now

abbrev pub decreases-entries : goal.decreases-entries
decreases-entries l = length l.source.rest.now
