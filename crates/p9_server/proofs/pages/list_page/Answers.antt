-- Each entry stands behind the page so far, until none is left that has room.
use Rattle.std.proofs.Common.{◌≡◌, ◌∙◌, ◌-◌, ap, sym, subst, ℕ, length, Ok, arith}
use Rattle.tree_model.specs.Reading.{Entry}
use Rattle.p9_server.proofs.PageSteps.{listing_more, Listing}
use Rattle.p9_server.proofs.PageSteps.{takes_here}
use Rattle.p9_server.proofs.pages.list_page.Goals as goal

pub entries-preserved : goal.entries-preserved
entries-preserved g c =
    let h = c.args.host.now in
    let t = g.H.Host.tree h in
    let l = c.entries in
    let e = c.in_ok-entry in
    let size : c.len.result ≡ length l.bytes.items = omega (arith, c.len.ensures) in
    let more = listing_more t c.args.dir c.args.offset c.args.room l.cookie l.bytes.items
    l.invariant.listing (g.met.H.Host.good h) c.in-Some.entry
    (takes_here (g.H.Host.tree l.host) t c.args.dir l.cookie (c.args.room - c.len.result)
    (c.args.room - length l.bytes.items) _ _ l.invariant.tree
    (ap (λ (n : ℕ). c.args.room - n) size) (ap (λ o. Ok o) c.in-Some.is) e.ensures.takes)
    c.push_entry.new.bytes.items c.in_ok-push_entry.ensures in
    record {
      listing = subst (λ (k : ℕ). Listing t c.args.dir c.args.offset c.args.room k
          c.push_entry.new.bytes.items) (sym (ap (λ (x : Entry). x.cookie) c.entry.view_is)) more.0;
      tree = e.ensures.tree ∙ l.invariant.tree;
      holds = e.ensures.holds ∙ l.invariant.holds;
      faults = e.ensures.cause.counted ∙ l.invariant.faults;
      steady = e.ensures.steady ∙ l.invariant.steady;
    }
