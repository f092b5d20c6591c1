-- What a reader tells of a record is what is stored at its number.
use Rattle.std.proofs.Common.{◌≡◌, ℕ, ◌<◌, Bool, true, false, cond, List, [], ◌∷◌, refl, sym, ap}
use Rattle.std.proofs.Common.{◌∙◌, subst, Option, Some, None, Ok, ⊎_elim, arith, nat_lt}
use Rattle.std.specs.Prelude.{T, find as first_where, option_map}
use Rattle.std.proofs.lemmas.Bool.{cases_eq}
use Rattle.std.proofs.lemmas.Bool.Decides.{nat_tests}
use Rattle.std.specs.Ordering.{nat_cmp}
use Rattle.std.specs.FinMap.{FinMap, get, find, is_sorted, entries, entries_sorted, get-entries}
use Rattle.port_base.specs.Tables.{next_after}
use Rattle.tree_model.specs.declared.attributes.Attr.{Attr}
use Rattle.tree_model.specs.Tree.{Tree, Record}
use Rattle.tree_model.specs.Attributes.{attr_of, attr_or_missing, stat_of}
use Rattle.tree_model.specs.Reading.{record_after_of}
use Rattle.tree_model.proofs.Counting.{second, find_first, find_later, none_later}

module _ {X : Type 0} where
  found_at : (p : ℕ × X → Bool) (es : List (ℕ × X)) → T (is_sorted nat_cmp es) → (e : ℕ × X)
      → first_where p es ≡ Some e → (find nat_cmp e.0 es ≡ Some e.1) × (p e ≡ true)
  found_at p [] h e is = absurd (cc)
  found_at p (f ∷ es) h e is = by_test (p f) refl (λ is. found_at p es (second _ _ h) e is) is where
    by_test : (b : Bool) → p f ≡ b → (first_where p es ≡ Some e → (find nat_cmp e.0 es ≡ Some e.1)
        × (p e ≡ true)) → cond b (Some f) (first_where p es) ≡ Some e
        → (find nat_cmp e.0 (f ∷ es) ≡ Some e.1) × (p e ≡ true)
    by_test true passes later is = let same : f ≡ e =
        cc in subst (λ e. (find nat_cmp e.0 (f ∷ es) ≡ Some e.1) × (p e ≡ true)) same
        (find_first f es, passes)
    by_test false fails later is =
        let rest = later is in (
          ⊎_elim
              (λ eq. absurd (let none : find nat_cmp e.0 es ≡ None = ap (λ k. find nat_cmp k es) eq
              ∙ none_later f es h in let some = rest.0 in cc))
              (λ ne. find_later f es e.0 ne ∙ rest.0)
              (cases_eq e.0 f.0),
          rest.1,
        )

  -- the next key is above, and its value is the one that the map has
  pub next_after-get : (key : ℕ) (m : FinMap nat_cmp X) (e : ℕ × X) → next_after key m ≡ Some e
      → (get m e.0 ≡ Some e.1) × (key < e.0)
  next_after-get key m e is =
      let found = found_at (λ e. nat_lt key e.0) (entries m) (entries_sorted m) e is in
      (get-entries m e.0 ∙ found.0, let above = found.1 in grind (arith, nat_tests))

-- what is told of the next record is what is told of the one at its number
pub record_after-stored : (t : Tree) (i : ℕ) (a : Attr) → record_after_of t i ≡ Some a
    → (r : Record) × (get t.records a.ino ≡ Some r) × (attr_of a.ino r ≡ a) × (i < a.ino)
record_after-stored t i a = by_next (next_after i t.records) refl where
  by_next : (o : Option (ℕ × Record)) → next_after i t.records ≡ o
      → option_map (λ (e : ℕ × Record). attr_of e.0 e.1) o ≡ Some a → (r : Record)
      × (get t.records a.ino ≡ Some r) × (attr_of a.ino r ≡ a) × (i < a.ino)
  by_next None none is = absurd (cc)
  by_next (Some e) found is =
      let same : attr_of e.0 e.1 ≡ a = cc in
      let number : e.0 ≡ a.ino = ap (λ (a : Attr). a.ino) same in
      let at = next_after-get i t.records e found in (
        e.1,
        ap (get t.records) (sym number) ∙ at.0,
        ap (λ n. attr_of n e.1) (sym number)
            ∙ same,
        subst (λ n. i < n) number at.1,
      )

pub record_after-stat : (t : Tree) (i : ℕ) (a : Attr) → record_after_of t i ≡ Some a
    → (stat_of t a.ino ≡ Ok a) × (i < a.ino)
record_after-stat t i a is =
    let w = record_after-stored t i a is in
    (ap (attr_or_missing a.ino) w.1 ∙ ap (λ (a : Attr). Ok a) w.2, w.3)
