-- A name that goes, and the record that no entry and no hold names then.
use Rattle.std.proofs.Common.{◌≡◌, ℕ, Bool, true, List, sym, ap, ◌∙◌, subst, Ok, Result}
use Rattle.tree_model.specs.Tree.{Tree, Records, body_at, keep}
use Rattle.tree_model.specs.Good.{IsGoodTree}
use Rattle.tree_model.specs.Finding.{lookup_of}
use Rattle.tree_model.specs.Sound.{swept}
use Rattle.tree_model.specs.Unlinking.{without_entry, is_empty_at, removed_at}
use Rattle.tree_model.proofs.Files.{good_is_counted}
use Rattle.tree_model.proofs.Keeping.{keep_good, keep_kept, keep_stored}
use Rattle.tree_model.proofs.Sweeping.{kept_is_swept}
use Rattle.tree_model.proofs.Leaving.{without_good, without_kept, without_stored}
use Rattle.tree_host.specs.Holds.{Holds, is_held}
use Rattle.tree_host.specs.Host.{IsHeldIn}
use Rattle.tree_host.specs.Kept.{tree_from}

module _ (t : Tree) (h : Holds) (g : IsGoodTree t) (s : IsHeldIn t h) (dir : ℕ) (name : List ℕ)
    (ino : ℕ) (is : lookup_of t dir name ≡ Ok ino)
    (empty : is_empty_at (body_at t.records ino) ≡ true) where
  abbrev left : Tree
  left = without_entry t dir name ino

  left_good : IsGoodTree left
  left_good = without_good t g dir name ino is empty

  module _ (rs : Records) (made : rs ≡ swept (is_held h) left.records ino) where
    pub unlinked_tree : rs ≡ (keep (is_held h) left).records
    unlinked_tree =
        made ∙ sym (kept_is_swept (good_is_counted left (is_held h) left_good
        (without_stored t g dir name ino is empty (is_held h) s.stored)) ino
        (without_kept t g dir name ino is empty (is_held h) s.kept))

    pub gone_good : IsGoodTree (tree_from rs t.next t.limits t.moment)
    gone_good = subst (λ (rs : Records). IsGoodTree (tree_from rs t.next t.limits t.moment))
        (sym unlinked_tree) (keep_good left left_good (is_held h))

    pub gone_held : IsHeldIn (tree_from rs t.next t.limits t.moment) h
    gone_held = subst (λ (rs : Records). IsHeldIn (tree_from rs t.next t.limits t.moment) h)
        (sym unlinked_tree) (record {
          kept = keep_kept left left_good (is_held h);
          stored = keep_stored left left_good (is_held h)
              (without_stored t g dir name ino is empty (is_held h) s.stored);
          positive = s.positive;
        })

    pub gone_tree : tree_from rs t.next t.limits t.moment ≡ keep (is_held h) left
    gone_tree = ap (λ (rs : Records). tree_from rs t.next t.limits t.moment) unlinked_tree

-- what is told of a name that was found and went
pub told_gone : (held : ℕ → Bool) (t u : Tree) (dir : ℕ) (name : List ℕ) (r : Result ℕ ℕ) (ino : ℕ)
    → r ≡ Ok ino → u ≡ keep held (without_entry t dir name ino)
    → removed_at held t dir name r ≡ Ok (tt, u)
told_gone held t u dir name r ino is made = ap (removed_at held t dir name) is
    ∙ ap (λ (u : Tree). Ok (tt, u)) (sym made)
