-- The first entry above a cookie stands at the point that the search finds.
use Rattle.std.proofs.Common.{◌≡◌, List, sym, ap, ◌∙◌, subst, rules}
use Rattle.std.specs.Prelude.{nat_le, slice_get}
use Rattle.std.proofs.lemmas.List.Sorted.{IsPartitionPoint-from_clause, IsPartitionedBy-leb}
use Rattle.tree_model.specs.Tree.{DirEntry}
use Rattle.tree_model.specs.Reading.{entry_above}
use Rattle.tree_host.specs.NamePlaces.{AreInOrder}
use Rattle.tree_host.proofs.Rising.{never_falls, first_above, got}
use Rattle.tree_host.proofs.listing.Listing.above.Goals as goal

pub returns : goal.returns
returns c =
    let items = c.args.self.now.entries.items in
    let searched = c.deref.result.now in
    let next = c.args.self.now.next in
    let place = c.partition_point-place.result in
    let same : searched ≡ items = search rules in
    let same_again : c.deref-2.result.now ≡ items = search rules in
    got _ c.get.result c.deref-2.result.now place c.get.ensures.lookup.1 c.get.ensures.lookup.3
    ∙ ap (λ (l : List DirEntry). slice_get l place) (same_again ∙ sym same)
    ∙ first_above c.args.cookie searched place c.partition_point-place.ensures.bound
    (IsPartitionPoint-from_clause (λ (e : DirEntry). nat_le e.cookie c.args.cookie) searched place
    c.partition_point-place.ensures.partitioned
    (IsPartitionedBy-leb (λ (e : DirEntry). e.cookie) searched c.args.cookie
    (never_falls searched next (subst (λ (l : List DirEntry). AreInOrder l next) (sym same)
    c.args.self.now.order))) (search rules))
    ∙ ap (entry_above c.args.cookie) same
