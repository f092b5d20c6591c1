-- How many entries name an inode, after a change of one record.
use Rattle.std.proofs.Common.{⊎_elim, zero, ◌≡◌, ◌≢◌, ℕ, suc, ◌+◌, ◌<◌, Bool, true, false, cond}
use Rattle.std.proofs.Common.{List, [], ◌∷◌, refl, sym, ap, ◌∙◌, subst, Option, Some, None}
use Rattle.std.proofs.Common.{Ordering, arith, ◌&&◌}
use Rattle.std.specs.Prelude.{T}
use Rattle.std.specs.declared.cmp.Ordering.TheVariants.{Less, Equal, Greater}
use Rattle.std.specs.Ordering.{nat_cmp, is_eq, is_lt}
use Rattle.std.specs.Cmp.{nat_cmp_total}
use Rattle.tree_model.proofs.Maps.{at_itself, apart, inserted, insert_keeps, removed, remove_keeps}
use Rattle.tree_model.proofs.Maps.{same_by}
use Rattle.std.proofs.lemmas.Bool.{cases_eq}
use Rattle.tree_model.specs.Tree.{weigh, weight}
use Rattle.std.specs.FinMap.{FinMap, get, insert, remove, find, put, is_sorted, entries}
use Rattle.std.specs.FinMap.{entries_sorted, entries-insert, get-entries, empty, get-empty}

both : (a b : Bool) → T a → T b → T (a && b)
both true b p q = q
both false b p q = p

pub first : (a b : Bool) → T (a && b) → T a
first true b p = tt
first false b p = p

pub second : (a b : Bool) → T (a && b) → T b
second true b p = p
second false b p = absurd p

less : (o : Ordering) → T (is_lt o) → o ≡ Less
less Less p = refl
less Equal p = absurd p
less Greater p = absurd p

module _ {X : Type 0} where
  abbrev pub below_all : ℕ → List (ℕ × X) → Bool
  below_all x [] = true
  below_all x (e ∷ es) = is_lt (nat_cmp x e.0) && below_all x es

  pub below_less : (x y : ℕ) (es : List (ℕ × X)) → nat_cmp x y ≡ Less → T (below_all y es)
      → T (below_all x es)
  below_less x y [] p h = tt
  below_less x y (e ∷ es) p h = both _ _ (subst (λ r. T (is_lt r))
      (sym (nat_cmp_total.trans x y e.0 p (less _ (first _ _ h)))) tt)
      (below_less x y es p (second _ _ h))

  pub find_below : (q : ℕ) (es : List (ℕ × X)) → T (below_all q es) → find nat_cmp q es ≡ None
  find_below q [] h = refl
  find_below q (e ∷ es) h = ap (λ r. cond (is_eq r) (Some e.1) (find nat_cmp q es))
      (less _ (first _ _ h)) ∙ find_below q es (second _ _ h)

weigh-put : {X : Type 0} (w : X → ℕ) (k : ℕ) (v : X) (es : List (ℕ × X)) → T (is_sorted nat_cmp es)
    → weigh w (put nat_cmp k v es) + weight w (find nat_cmp k es) ≡ weigh w es + w v
weigh-put w k v [] h = omega arith
weigh-put w k v (e ∷ es) h =
    let cases = λ (r : Ordering) (p : nat_cmp k e.0 ≡ r).
    (elim r as (λ r. nat_cmp k e.0 ≡ r → weigh w (put nat_cmp k v (e ∷ es)) + weight w
    (find nat_cmp k (e ∷ es)) ≡ weigh w (e ∷ es) + w v) [
      | Less ↦ λ p. let none : find nat_cmp k es ≡ None =
          find_below k es (below_less k e.0 es p (first _ _ h)) in rw (p, none) (omega arith)
      | Equal ↦ λ p. rw p (omega arith)
      | Greater ↦ λ p. let rest = weigh-put w k v es (second _ _ h) in rw p (omega arith)
    ]) p in
    cases (nat_cmp k e.0) refl

-- the weight of all records after one changed
pub weigh-insert : {X : Type 0} (w : X → ℕ) (m : FinMap nat_cmp X) (k : ℕ) (v : X)
    → weigh w (entries (insert m k v)) + weight w (get m k) ≡ weigh w (entries m) + w v
weigh-insert w m k v =
    ap (λ es. weigh w es + weight w (get m k)) (entries-insert nat_cmp_total m k v)
    ∙ ap (λ o. weigh w (put nat_cmp k v (entries m)) + weight w o) (get-entries m k)
    ∙ weigh-put w k v (entries m) (entries_sorted m)

pub put_back : {X : Type 0} (m : FinMap nat_cmp X) (k : ℕ) (v : X) → get m k ≡ Some v
    → insert (remove m k) k v ≡ m
put_back m k v had = same_by _ m k (inserted (remove m k) k v ∙ sym had)
    (λ q ne. insert_keeps (remove m k) k v q ne ∙ remove_keeps m k q ne)

-- and after one left
pub weigh-remove : {X : Type 0} (w : X → ℕ) (m : FinMap nat_cmp X) (k : ℕ) (v : X)
    → get m k ≡ Some v → weigh w (entries (remove m k)) + w v ≡ weigh w (entries m)
weigh-remove w m k v had =
    let none = ap (weight w) (removed m k) in
    let back = ap (λ n. weigh w (entries n)) (put_back m k v had) in
    let step = weigh-insert w (remove m k) k v in
    omega arith

module _ {X : Type 0} where
  -- a value that is found, or is not the first
  pub find_first : (e : ℕ × X) (es : List (ℕ × X)) → find nat_cmp e.0 (e ∷ es) ≡ Some e.1
  find_first e es = ap (λ b. cond b (Some e.1) (find nat_cmp e.0 es)) (at_itself e.0)

  pub find_later : (e : ℕ × X) (es : List (ℕ × X)) (q : ℕ) → q ≢ e.0
      → find nat_cmp q (e ∷ es) ≡ find nat_cmp q es
  find_later e es q ne = ap (λ b. cond b (Some e.1) (find nat_cmp q es)) (apart q e.0 ne)

  -- the values after the first, at the first one's key
  pub none_later : (e : ℕ × X) (es : List (ℕ × X)) → T (is_sorted nat_cmp (e ∷ es))
      → find nat_cmp e.0 es ≡ None
  none_later e es h = find_below e.0 es (first _ _ h)

module _ {X : Type 0} (w : X → ℕ) where
  -- where nothing weighs anything, all weigh nothing
  weigh-none : (es : List (ℕ × X)) → T (is_sorted nat_cmp es)
      → ((q : ℕ) → weight w (find nat_cmp q es) ≡ 0) → weigh w es ≡ 0
  weigh-none [] h z = refl
  weigh-none (e ∷ es) h z =
      let here : w e.1 ≡ 0 = ap (weight w) (sym (find_first e es)) ∙ z e.0 in
      let rest = weigh-none es (second _ _ h)
      (λ q. ⊎_elim (λ is. ap (λ q. weight w (find nat_cmp q es)) is
      ∙ ap (weight w) (none_later e es h))
      (λ ne. ap (weight w) (sym (find_later e es q ne)) ∙ z q) (cases_eq q e.0)) in
      omega arith

  weigh-alike_from : (es : List (ℕ × X)) → T (is_sorted nat_cmp es) → (m : FinMap nat_cmp X)
      → ((q : ℕ) → weight w (find nat_cmp q es) ≡ weight w (get m q))
      → weigh w es ≡ weigh w (entries m)
  weigh-alike_from [] h m same = sym (weigh-none (entries m) (entries_sorted m)
      (λ q. ap (weight w) (sym (get-entries m q)) ∙ sym (same q)))
  weigh-alike_from (e ∷ es) h m same = by_value (λ n s. weigh-alike_from es (second _ _ h) n s)
      (get m e.0) refl where
        others : (n : FinMap nat_cmp X) → get n e.0 ≡ None → ((q : ℕ) → q ≢ e.0 → get n q ≡ get m q)
            → (q : ℕ) → weight w (find nat_cmp q es) ≡ weight w (get n q)
        others n none there q = ⊎_elim
            (λ is. ap (λ q. weight w (find nat_cmp q es)) is ∙ ap (weight w) (none_later e es h)
            ∙ sym (ap (λ q. weight w (get n q)) is ∙ ap (weight w) none))
            (λ ne. ap (weight w) (sym (find_later e es q ne)) ∙ same q
            ∙ ap (weight w) (sym (there q ne)))
            (cases_eq q e.0)

        by_value : ((n : FinMap nat_cmp X) → ((q : ℕ)
            → weight w (find nat_cmp q es) ≡ weight w (get n q)) → weigh w es ≡ weigh w (entries n))
            → (o : Option X) → get m e.0 ≡ o → weigh w (e ∷ es) ≡ weigh w (entries m)
        by_value later None at =
            let here : w e.1 ≡ 0 = ap (weight w) (sym (find_first e es)) ∙ same e.0
            ∙ ap (weight w) at in
            let rest = later m (others m at (λ q ne. refl)) in
            omega arith
        by_value later (Some v) at =
            let here : w e.1 ≡ w v = ap (weight w) (sym (find_first e es)) ∙ same e.0
            ∙ ap (weight w) at in
            let rest = later (remove m e.0) (others (remove m e.0) (removed m e.0)
            (λ q ne. remove_keeps m e.0 q ne)) in
            let step = weigh-remove w m e.0 v at in
            omega arith

  -- maps whose values weigh the same at each key weigh the same
  pub weigh-alike : (m n : FinMap nat_cmp X) → ((q : ℕ) → weight w (get m q) ≡ weight w (get n q))
      → weigh w (entries m) ≡ weigh w (entries n)
  weigh-alike m n same = weigh-alike_from (entries m) (entries_sorted m) n
      (λ q. ap (weight w) (sym (get-entries m q)) ∙ same q)

  weighs_in : (es : List (ℕ × X)) → T (is_sorted nat_cmp es) → 0 < weigh w es → (q : ℕ)
      × (0 < weight w (find nat_cmp q es))
  weighs_in [] h many = absurd (omega arith)
  weighs_in (e ∷ es) h many = by_first (λ more. weighs_in es (second _ _ h) more) (w e.1) refl where
    by_first : (0 < weigh w es → (q : ℕ) × (0 < weight w (find nat_cmp q es))) → (n : ℕ) → w e.1 ≡ n
        → (q : ℕ) × (0 < weight w (find nat_cmp q (e ∷ es)))
    by_first later zero is =
        let rest = later (omega arith) in (
          rest.0,
          ⊎_elim
              (λ eq. absurd (let none : weight w (find nat_cmp rest.0 es) ≡ 0 =
              ap (λ q. weight w (find nat_cmp q es)) eq
              ∙ ap (weight w) (none_later e es h) in let some = rest.1 in omega arith))
              (λ ne. subst (λ n. 0 < n) (ap (weight w) (sym (find_later e es rest.0 ne))) rest.1)
              (cases_eq rest.0 e.0),
        )
    by_first later (suc n) is = (
      e.0,
      subst (λ n. 0 < n) (ap (weight w) (sym (find_first e es)))
          (omega arith),
    )

  -- where all weigh something, the value at some key does
  pub weighs_somewhere : (m : FinMap nat_cmp X) → 0 < weigh w (entries m) → (q : ℕ)
      × (0 < weight w (get m q))
  weighs_somewhere m many =
      let found = weighs_in (entries m) (entries_sorted m) many in
      (found.0, subst (λ n. 0 < n) (ap (weight w) (sym (get-entries m found.0))) found.1)

  -- nothing weighs nothing
  pub weigh-empty : weigh w (entries (empty {X = X} {R = nat_cmp})) ≡ 0
  weigh-empty = weigh-none (entries empty) (entries_sorted empty)
      (λ q. ap (weight w) (sym (get-entries empty q) ∙ get-empty nat_cmp q))
