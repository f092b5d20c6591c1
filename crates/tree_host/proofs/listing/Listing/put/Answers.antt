-- The new entry stands last, the one that had its name is gone, and the name has its cookie.
use Rattle.std.proofs.Common.{ℕ, ◌+◌, ◌<◌, List, [], ◌∷◌, ◌++◌, length, Some, refl, sym, ap, ◌∙◌}
use Rattle.std.proofs.Common.{subst, IfSome}
use Rattle.tree_model.specs.Tree.{DirEntry}
use Rattle.tree_model.specs.Unlinking.{without}
use Rattle.tree_host.specs.NamePlaces.{without_at, AreInOrder}
use Rattle.tree_host.specs.NameIndex.{IsIndexOf, IsUpdated}
use Rattle.tree_host.proofs.Rising.{order_without, order_push}
use Rattle.tree_host.proofs.Indexing.{index_put, put_past_place}
use Rattle.tree_host.proofs.listing.Listing.put.Goals as goal

abbrev entry : ℕ → List ℕ → ℕ → DirEntry
entry cookie name ino = record { cookie = cookie; name = name; ino = ino }

pub invariant_of-self-2 : goal.invariant_of-self-2
invariant_of-self-2 c =
    let s = c.args.self.now in
    let items = s.entries.items in
    let name = c.args.name.now in
    let x = entry s.next name c.args.ino in
    let named = ap (λ n. items ++ entry s.next n c.args.ino ∷ []) c.in_ok-from_slice.ensures.items in
    let put = c.remove_at.ensures
    ∙ ap (without_at c.place_of-place.result) (c.in_ok-enter.ensures.ok.0 ∙ named)
    ∙ ap (λ o. without_at o (items ++ x ∷ [])) c.place_of-place.ensures.found
    ∙ put_past_place name items x (subst (λ o. IfSome o (λ k. k < length items))
    c.place_of-place.ensures.found c.place_of-place.ensures.bound) in
    record {
      order = subst (λ (l : List DirEntry). AreInOrder l (s.next + 1)) (sym put)
          (order_push (without name items) s.next x refl (order_without name items s.next s.order));
      indexed = subst (λ (l : List DirEntry). IsIndexOf c.enter.new.index l) (sym put)
          (index_put name s.index c.enter.new.index items s.indexed x refl
          (subst (λ n. IsUpdated n (Some s.next) s.index c.enter.new.index)
          c.in_ok-key.ensures.items c.in_ok-enter.ensures.ok.1));
    }

pub returns-clause-ok : goal.returns-clause-ok
returns-clause-ok c =
    let s = c.args.self.now in
    let items = s.entries.items in
    let name = c.args.name.now in
    let x = entry s.next name c.args.ino in
    let named = ap (λ n. items ++ entry s.next n c.args.ino ∷ []) c.in_ok-from_slice.ensures.items in (
      c.remove_at.ensures
          ∙ ap (without_at c.place_of-place.result) (c.in_ok-enter.ensures.ok.0 ∙ named)
          ∙ ap (λ o. without_at o (items ++ x ∷ [])) c.place_of-place.ensures.found
          ∙ put_past_place name items x (subst (λ o. IfSome o (λ k. k < length items))
          c.place_of-place.ensures.found c.place_of-place.ensures.bound),
      refl,
    )
