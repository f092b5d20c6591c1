-- The entry at the place of the name goes, and its cookie with it.
use Rattle.std.proofs.Common.{List, None, sym, ap, ◌∙◌, subst}
use Rattle.tree_model.specs.Tree.{DirEntry}
use Rattle.tree_host.specs.NamePlaces.{without_at, AreInOrder}
use Rattle.tree_host.specs.NameIndex.{IsIndexOf}
use Rattle.tree_host.proofs.Rising.{order_without}
use Rattle.tree_host.proofs.Indexing.{updated, index_without, without_its_place}
use Rattle.tree_host.proofs.listing.Listing.remove.Goals as goal

pub invariant_of-self : goal.invariant_of-self
invariant_of-self c =
    let s = c.args.self.now in
    let items = s.entries.items in
    let name = c.args.name.now in
    let gone = c.remove_at.ensures ∙ ap (λ o. without_at o items) c.place_of-place.ensures.found
    ∙ without_its_place name items in
    record {
      order = subst (λ (l : List DirEntry). AreInOrder l s.next) (sym gone)
          (order_without name items s.next s.order);
      indexed = subst (λ (l : List DirEntry). IsIndexOf c.remove.new.self l) (sym gone)
          (index_without name s.index c.remove.new.self items s.indexed
          (updated name s.index c.remove.new.self None c.remove.ensures.updates));
    }

pub returns-clause-entries : goal.returns-clause-entries
returns-clause-entries c =
    let items = c.args.self.now.entries.items in
    c.remove_at.ensures ∙ ap (λ o. without_at o items) c.place_of-place.ensures.found
    ∙ without_its_place c.args.name.now items
