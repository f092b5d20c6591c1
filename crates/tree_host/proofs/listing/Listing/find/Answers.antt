-- What stands at the place of the name is its entry.
use Rattle.std.proofs.Common.{◌≡◌, List, Some, None, sym, ap, ◌∙◌, rules}
use Rattle.std.specs.Prelude.{slice_get}
use Rattle.tree_model.specs.Tree.{DirEntry}
use Rattle.tree_host.proofs.Rising.{got}
use Rattle.tree_host.proofs.Indexing.{got_named}
use Rattle.tree_host.proofs.listing.Listing.find.Goals as goal

pub returns-in-Some : goal.returns-in-Some
returns-in-Some c =
    let items = c.args.self.now.entries.items in
    let place = c.in-Some.place in
    let same : c.deref.result.now ≡ items = search rules in
    got _ c.get.result c.deref.result.now place c.get.ensures.lookup.1 c.get.ensures.lookup.3
    ∙ ap (λ (l : List DirEntry). slice_get l place) same
    ∙ got_named c.args.name.now items (Some place) (sym c.in-Some.is ∙ c.place_of.ensures.found)

pub returns-in-None : goal.returns-in-None
returns-in-None c = got_named c.args.name.now c.args.self.now.entries.items None
    (sym c.in-None.is ∙ c.place_of.ensures.found)
