-- Maps with each value changed.
use Rattle.std.proofs.Common.{◌≡◌, ℕ, Bool, true, false, cond, List, [], ◌∷◌, length, refl, sym, ap}
use Rattle.std.proofs.Common.{◌∙◌, subst, Option, Some, None, arith, ◌&&◌}
use Rattle.std.specs.Prelude.{T, option_map}
use Rattle.std.specs.Ordering.{nat_cmp, eq_by_cmp, is_eq, is_lt}
use Rattle.std.specs.Cmp.{nat_cmp_total}
use Rattle.std.specs.FinMap as map
use Rattle.std.specs.FinMap.{FinMap, get, insert, remove, len, find, is_sorted, entries}
use Rattle.std.specs.FinMap.{entries_sorted, entries-from_sorted, get-from_sorted, get-entries}
use Rattle.std.specs.FinMap.{get-insert, get-remove, len-entries}
use Rattle.tree_model.proofs.Maps.{same_gets}
use Rattle.tree_model.proofs.Counting.{below_all}
use Rattle.fuse_gate.specs.Mapped.{entries_mapped, mapped}

module _ {X Y : Type 0} (f : X → Y) where
  same_below : (x : ℕ) (es : List (ℕ × X)) → below_all x (entries_mapped f es) ≡ below_all x es
  same_below x [] = refl
  same_below x (e ∷ es) = ap (λ b. is_lt (nat_cmp x e.0) && b) (same_below x es)

  same_sorted : (es : List (ℕ × X)) → is_sorted nat_cmp (entries_mapped f es) ≡ is_sorted nat_cmp es
  same_sorted [] = refl
  same_sorted (e ∷ es) = ap (λ b. b && is_sorted nat_cmp (entries_mapped f es)) (same_below e.0 es)
      ∙ ap (λ b. below_all e.0 es && b) (same_sorted es)

  sorted_mapped : (es : List (ℕ × X)) → T (is_sorted nat_cmp es)
      → T (is_sorted nat_cmp (entries_mapped f es))
  sorted_mapped es h = subst T (sym (same_sorted es)) h

  find_mapped : (q : ℕ) (es : List (ℕ × X)) → find nat_cmp q (entries_mapped f es) ≡ option_map f
      (find nat_cmp q es)
  find_mapped q [] = refl
  find_mapped q (e ∷ es) = elim (is_eq (nat_cmp q e.0)) as
      (λ b. cond b (Some (f e.1)) (find nat_cmp q (entries_mapped f es)) ≡ option_map f
      (cond b (Some e.1) (find nat_cmp q es))) [ true ↦ refl | false ↦ find_mapped q es ]

  pub get-mapped : (m : FinMap nat_cmp X) (q : ℕ) → get (mapped f m) q ≡ option_map f (get m q)
  unfolding mapped
  get-mapped m q = get-from_sorted nat_cmp (entries_mapped f (entries m)) q
      (sorted_mapped (entries m) (entries_sorted m)) ∙ find_mapped q (entries m)
      ∙ ap (option_map f) (sym (get-entries m q))

  map_cond : (b : Bool) (x : X) (o : Option X)
      → option_map f (cond b (Some x) o) ≡ cond b (Some (f x)) (option_map f o)
  map_cond true x o = refl
  map_cond false x o = refl

  map_gone : (b : Bool) (o : Option X) → option_map f (cond b None o) ≡ cond b None (option_map f o)
  map_gone true o = refl
  map_gone false o = refl

  pub mapped-insert : (m : FinMap nat_cmp X) (k : ℕ) (v : X)
      → mapped f (insert m k v) ≡ insert (mapped f m) k (f v)
  mapped-insert m k v = same_gets _ _ (λ q.
      get-mapped (insert m k v) q ∙ ap (option_map f) (get-insert nat_cmp_total m k v q)
      ∙ map_cond (eq_by_cmp nat_cmp q k) v (get m q)
      ∙ sym (get-insert nat_cmp_total (mapped f m) k (f v) q
      ∙ ap (cond (eq_by_cmp nat_cmp q k) (Some (f v))) (get-mapped m q)))

  pub mapped-remove : (m : FinMap nat_cmp X) (k : ℕ) → mapped f (remove m k) ≡ remove (mapped f m) k
  mapped-remove m k = same_gets _ _ (λ q.
      get-mapped (remove m k) q ∙ ap (option_map f) (get-remove nat_cmp_total m k q)
      ∙ map_gone (eq_by_cmp nat_cmp q k) (get m q)
      ∙ sym (get-remove nat_cmp_total (mapped f m) k q
      ∙ ap (cond (eq_by_cmp nat_cmp q k) None) (get-mapped m q)))

  length_mapped : (es : List (ℕ × X)) → length (entries_mapped f es) ≡ length es
  length_mapped [] = refl
  length_mapped (e ∷ es) = let rest = length_mapped es in omega arith

  pub len-mapped : (m : FinMap nat_cmp X) → len (mapped f m) ≡ len m
  unfolding mapped
  len-mapped m =
      len-entries (map.from_sorted (entries_mapped f (entries m)))
      ∙ ap length (entries-from_sorted nat_cmp (entries_mapped f (entries m))
      (sorted_mapped (entries m) (entries_sorted m)))
      ∙ length_mapped (entries m) ∙ sym (len-entries m)

  -- what a changed map has, the map has before the change
  pub mapped_from : (m : FinMap nat_cmp X) (k : ℕ) (y : Y) → get (mapped f m) k ≡ Some y → (x : X)
      × (get m k ≡ Some x) × (f x ≡ y)
  mapped_from m k y at = by_value (get m k) refl where
    by_value : (o : Option X) → get m k ≡ o → (x : X) × (get m k ≡ Some x) × (f x ≡ y)
    by_value None is = absurd (let none : None ≡ Some y = ap (option_map f) (sym is)
        ∙ sym (get-mapped m k) ∙ at in cc)
    by_value (Some x) is = (
      x,
      is,
      (let same : Some (f x) ≡ Some y = ap (option_map f) (sym is)
          ∙ sym (get-mapped m k) ∙ at in cc),
    )

  no_value : (o : Option X) → option_map f o ≡ None → o ≡ None
  no_value None h = refl
  no_value (Some x) h = absurd cc

  pub mapped_none : (m : FinMap nat_cmp X) (k : ℕ) → get (mapped f m) k ≡ None → get m k ≡ None
  mapped_none m k none = no_value (get m k) (sym (get-mapped m k) ∙ none)

  pub mapped_at : (m : FinMap nat_cmp X) (k : ℕ) (x : X) → get m k ≡ Some x
      → get (mapped f m) k ≡ Some (f x)
  mapped_at m k x at = get-mapped m k ∙ ap (option_map f) at
