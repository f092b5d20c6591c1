-- The entries that a page spells are those that are told.
use Rattle.std.proofs.Common.{sym, subst}
use Rattle.std.proofs.lemmas.Result.{err_from_is_err_and}
use Rattle.p9_client.specs.Listing.{AreSpelled, IsListing}
use Rattle.p9_client.proofs.Listed.{gives_entries, gives_error, gives_refusal, is_listing}
use Rattle.p9_client.proofs.Listed.{page_leaves}
use Rattle.p9_client.proofs.listing.read_entries.Goals as goal

pub entries_in-requires : goal.entries_in-requires
entries_in-requires g c =
    subst IsListing (sym c.deref.ensures.value)
    (is_listing (g.met.N.Nine.good c.args.nine.now) c.args.fid c.args.offset c.args.count
    c.in_ok-page.ensures c.in-Ok.page c.in-Ok.is)

pub returns-in_err-page : goal.returns-in_err-page
returns-in_err-page g c =
    let p = err_from_is_err_and c.from_residual.result c.from_residual.ensures.1 in
    gives_error c.from_residual.result p.0 p.1 c.in_err-page.ensures.unfinished
    c.in_err-page.ensures.kept

pub returns-in_err-entries-in-Ok : goal.returns-in_err-entries-in-Ok
returns-in_err-entries-in-Ok g c =
    let r = c.from_residual-in_err-entries-in-Ok in
    let p = err_from_is_err_and r.result r.ensures.1 in
    gives_error r.result p.0 p.1
    (page_leaves (g.met.N.Nine.good c.args.nine.now) c.args.fid c.args.offset c.args.count
    c.in_ok-page.ensures c.in-Ok.page c.in-Ok.is)
    c.in_ok-page.ensures.kept

pub returns-in_ok-entries-in-Ok : goal.returns-in_ok-entries-in-Ok
returns-in_ok-entries-in-Ok g c =
    gives_entries (g.met.N.Nine.good c.args.nine.now) c.args.fid c.args.offset c.args.count
    c.in_ok-page.ensures c.in-Ok.page c.in-Ok.is c.in_ok-entries-in-Ok.entries
    (λ es are. c.in_ok-entries-in-Ok.ensures es
    (subst (AreSpelled es) (sym c.deref.ensures.value) are))

pub returns-in-Err : goal.returns-in-Err
returns-in-Err g c =
    gives_refusal (g.met.N.Nine.good c.args.nine.now) c.args.fid c.args.offset c.args.count
    c.in_ok-page.ensures c.in-Err.e c.in-Err.is
