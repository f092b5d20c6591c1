-- A page is read entry by entry.
use Rattle.std.proofs.Common.{sym, ap, ◌∙◌, subst}
use Rattle.std.specs.Prelude.{map as each}
use Rattle.std.proofs.lemmas.Bool.{false≢true}
use Rattle.std.proofs.lemmas.List.{map_push}
use Rattle.p9_rmsg.specs.Dirents.{dirent_of}
use Rattle.p9_client.proofs.Listed.{IsReadTo, page_begins, read_all, read_one, reads_less}
use Rattle.p9_client.proofs.listing.entries_in.Goals as goal

pub take_entry-requires : goal.take_entry-requires
take_entry-requires c =
    let so_far = c.entries.invariant c.requires.entries c.requires.are in
    page_begins so_far.rest c.entries.source.rest.now so_far.are
    (λ none. false≢true (sym c.entries-test.true ∙ c.is_at_end.ensures.1 none))

pub entries-smaller : goal.entries-smaller
entries-smaller c = reads_less c.requires.entries (each dirent_of c.entries.entries.items)
    c.entries.source.rest.now c.take_entry.new.source.rest.now (dirent_of c.in_ok-entry.entry)
    (c.entries.invariant c.requires.entries c.requires.are)
    (λ none. false≢true (sym c.entries-test.true ∙ c.is_at_end.ensures.1 none))
    c.in_ok-entry.ensures

pub entries-preserved : goal.entries-preserved
entries-preserved c = λ es are. subst (λ front. IsReadTo es front c.take_entry.new.source.rest.now)
    (sym (ap (each dirent_of) c.in-Ok.ensures.items
    ∙ map_push dirent_of c.entries.entries.items c.in_ok-entry.entry))
    (read_one es (each dirent_of c.entries.entries.items) c.entries.source.rest.now
    c.take_entry.new.source.rest.now (dirent_of c.in_ok-entry.entry) (c.entries.invariant es are)
    (λ none. false≢true (sym c.entries-test.true ∙ c.is_at_end.ensures.1 none))
    c.in_ok-entry.ensures)

pub returns : goal.returns
returns c = λ es are. read_all es (each dirent_of c.entries.entries.items)
    c.entries.source.rest.now (c.entries.invariant es are)
    (c.is_at_end.ensures.0 c.entries-test.false)
