-- The cookie of the name leads to the place of its entry.
use Rattle.std.proofs.Common.{◌≡◌, ◌<◌, length, List, Some, sym, subst, rules}
use Rattle.std.specs.Prelude.{nat_lt}
use Rattle.std.proofs.lemmas.List.Sorted.{IsPartitionPoint-from_clause, IsPartitionedBy-ltb}
use Rattle.tree_model.specs.Tree.{DirEntry}
use Rattle.tree_host.specs.NamePlaces.{place_among, AreInOrder}
use Rattle.tree_host.specs.NameIndex.{IsIndexOf}
use Rattle.tree_host.proofs.Rising.{never_falls}
use Rattle.tree_host.proofs.Indexing.{no_place, place_by_cookie}
use Rattle.tree_host.proofs.listing.Listing.place_of.Goals as goal

pub returns-in_default-clause-found : goal.returns-in_default-clause-found
returns-in_default-clause-found c =
    let s = c.args.self.now in
    no_place s.index s.entries.items s.indexed c.args.name.now c.in_default.ensures.value

pub returns-clause-found : goal.returns-clause-found
returns-clause-found c =
    let s = c.args.self.now in
    let place = c.partition_point-place.result in
    let cookie = c.in-Some.found.now in
    let es = c.deref.result.now in
    let same : es ≡ s.entries.items = search rules in
    let order = subst (λ (l : List DirEntry). AreInOrder l s.next) (sym same) s.order in
    subst (λ (l : List DirEntry). Some place ≡ place_among c.args.name.now l) same
    (place_by_cookie s.index es (subst (λ (l : List DirEntry). IsIndexOf s.index l) (sym same)
    s.indexed) c.args.name.now s.next order cookie c.in-Some.ensures.value place
    c.partition_point-place.ensures.bound
    (IsPartitionPoint-from_clause (λ (e : DirEntry). nat_lt e.cookie cookie) es place
    c.partition_point-place.ensures.partitioned
    (IsPartitionedBy-ltb (λ (e : DirEntry). e.cookie) es cookie (never_falls es s.next order))
    (search rules))).1

pub returns-clause-bound : goal.returns-clause-bound
returns-clause-bound c =
    let s = c.args.self.now in
    let place = c.partition_point-place.result in
    let cookie = c.in-Some.found.now in
    let es = c.deref.result.now in
    let same : es ≡ s.entries.items = search rules in
    let order = subst (λ (l : List DirEntry). AreInOrder l s.next) (sym same) s.order in
    subst (λ (l : List DirEntry). place < length l) same
    (place_by_cookie s.index es (subst (λ (l : List DirEntry). IsIndexOf s.index l) (sym same)
    s.indexed) c.args.name.now s.next order cookie c.in-Some.ensures.value place
    c.partition_point-place.ensures.bound
    (IsPartitionPoint-from_clause (λ (e : DirEntry). nat_lt e.cookie cookie) es place
    c.partition_point-place.ensures.partitioned
    (IsPartitionedBy-ltb (λ (e : DirEntry). e.cookie) es cookie (never_falls es s.next order))
    (search rules))).0
