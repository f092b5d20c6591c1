-- A record or a name more in a tree that is held.
use Rattle.std.proofs.Common.{◌≡◌, ◌≢◌, ℕ, ◌+◌, not, List, refl, sym, subst, None, arith}
use Rattle.std.specs.FinMap.{get}
use Rattle.port_base.specs.Names.{name_fault}
use Rattle.tree_model.specs.Tree.{Tree, Record, Records, body_at, is_linked}
use Rattle.tree_model.specs.Good.{IsGoodTree}
use Rattle.tree_model.specs.Sound.{IsKept, AreStored, has_no_links}
use Rattle.tree_model.specs.Making.{new_name_refused}
use Rattle.tree_model.specs.Placing.{IsNew, with_record, link_refused, with_link}
use Rattle.tree_model.specs.Making.{create_refused}
use Rattle.tree_model.proofs.Files.{refused_by_links, good_is_counted}
use Rattle.tree_model.proofs.Placing.{with_record_good, with_record_kept, with_record_stored}
use Rattle.tree_model.proofs.Joining.{named_in, with_link_good, with_link_kept, with_link_stored}
use Rattle.tree_model.proofs.Joining.{link_refused_by_links}
use Rattle.tree_model.specs.Creating.{with_new, with_name}
use Rattle.tree_model.proofs.Creating.{with_new_good, with_new_kept, with_new_stored}
use Rattle.tree_model.proofs.Creating.{with_name_good as name_good, with_name_kept}
use Rattle.tree_model.proofs.Creating.{with_name_stored}
use Rattle.tree_host.proofs.Held.{ArePositive, more_there, positive_insert}
use Rattle.tree_host.specs.Holds.{Holds, hold_count, held_more, is_held}
use Rattle.tree_host.specs.Host.{IsHeldIn}
use Rattle.tree_host.specs.Kept.{tree_from}

module _ (t : Tree) (h : Holds) (g : IsGoodTree t) (s : IsHeldIn t h) (dir : ℕ)
    (name : List ℕ) where
  pub refused_as : create_refused t dir name ≡ new_name_refused
      (not (has_no_links (get t.records dir))) t.limits.entries t.next name (body_at t.records dir)
  refused_as = sym (refused_by_links (good_is_counted t (is_held h) g s.stored) t.limits.entries
      t.next dir name)

  pub named_as : (ino : ℕ) → link_refused (is_linked t.records dir) t.limits name
      (body_at t.records dir) (get t.records ino) ≡ link_refused
      (not (has_no_links (get t.records dir))) t.limits name (body_at t.records dir)
      (get t.records ino)
  named_as ino = sym (link_refused_by_links (good_is_counted t (is_held h) g s.stored) t.limits dir
      name (get t.records ino))

  -- a record more
  module _ (free : create_refused t dir name ≡ None) (r : Record) (new : IsNew dir r) (rs : Records)
      (made : rs ≡ (with_record t dir name r).records) where
    pub with_it_good : name_fault name ≡ None
        → IsGoodTree (tree_from rs (t.next + 1) t.limits t.moment)
    with_it_good fine = subst (λ (rs : Records). IsGoodTree
        (tree_from rs (t.next + 1) t.limits t.moment)) (sym made)
        (with_record_good t g dir name free r new fine)

    pub with_it_held : IsHeldIn (tree_from rs (t.next + 1) t.limits t.moment) h
    with_it_held = record {
      kept = subst (λ (rs : Records). IsKept rs (is_held h)) (sym made)
          (with_record_kept t g dir name free r new (is_held h) s.kept);
      stored = subst (λ (rs : Records). AreStored rs (is_held h)) (sym made)
          (with_record_stored t g dir name free r new (is_held h) s.stored);
      positive = s.positive;
    }

  -- one more name
  module _ (ino : ℕ) (free : link_refused (is_linked t.records dir) t.limits name
      (body_at t.records dir) (get t.records ino) ≡ None) (rs : Records)
      (made : rs ≡ (with_link t dir name ino).records) where
    pub with_name_good : name_fault name ≡ None → IsGoodTree (tree_from rs t.next t.limits t.moment)
    with_name_good fine = subst (λ (rs : Records). IsGoodTree
        (tree_from rs t.next t.limits t.moment)) (sym made)
        (with_link_good t g dir ino name (named_in t.records t.limits dir ino name free) fine)

    pub with_name_held : IsHeldIn (tree_from rs t.next t.limits t.moment) h
    with_name_held = let w = named_in t.records t.limits dir ino name free in record {
      kept = subst (λ (rs : Records). IsKept rs (is_held h)) (sym made)
          (with_link_kept t g dir ino name w (is_held h) s.kept);
      stored = subst (λ (rs : Records). AreStored rs (is_held h)) (sym made)
          (with_link_stored t g dir ino name w (is_held h) s.stored);
      positive = s.positive;
    }

  -- a record more, in a directory that is stamped
  module _ (free : create_refused t dir name ≡ None) (r : Record) (new : IsNew dir r)
      (fine : name_fault name ≡ None) (rs : Records)
      (made : rs ≡ (with_new t dir name r).records) where
    abbrev after : Records → Tree
    after rs = tree_from rs (t.next + 1) t.limits t.moment

    pub with_new_it_good : IsGoodTree (after rs)
    with_new_it_good = subst (λ (rs : Records). IsGoodTree (after rs)) (sym made)
        (with_new_good t g dir name r new free fine)

    held_by : (h' : Holds) → ((q : ℕ) → q ≢ t.next → is_held h' q ≡ is_held h q) → ArePositive h'
        → IsHeldIn (after rs) h'
    held_by h' other positive = record {
      kept = subst (λ (rs : Records). IsKept rs (is_held h')) (sym made)
          (with_new_kept t g dir name r new free fine (is_held h) (is_held h') other s.kept);
      stored = subst (λ (rs : Records). AreStored rs (is_held h')) (sym made)
          (with_new_stored t g dir name r new free fine (is_held h) (is_held h') other s.stored);
      positive = positive;
    }

    pub with_new_it_same : IsHeldIn (after rs) h
    with_new_it_same = held_by h (λ q ne. refl) s.positive

    pub with_new_it_held : (h' : Holds) → h' ≡ held_more h t.next → IsHeldIn (after rs) h'
    with_new_it_held h' more = subst (IsHeldIn (after rs)) (sym more)
        (held_by (held_more h t.next) (more_there h t.next)
        (positive_insert h t.next (hold_count h t.next + 1) (omega arith) s.positive))

  -- one more name, whose record and directory are stamped
  module _ (ino : ℕ) (free : link_refused (is_linked t.records dir) t.limits name
      (body_at t.records dir) (get t.records ino) ≡ None) (fine : name_fault name ≡ None) where
    pub with_name_it_good : IsGoodTree (tree_from (with_name t dir name ino).records t.next t.limits
        t.moment)
    with_name_it_good = name_good t g dir ino name free fine

    pub with_name_it_held : IsHeldIn (tree_from (with_name t dir name ino).records t.next t.limits
        t.moment) h
    with_name_it_held = record {
      kept = with_name_kept t g dir ino name free fine (is_held h) s.kept;
      stored = with_name_stored t g dir ino name free fine (is_held h) s.stored;
      positive = s.positive;
    }
