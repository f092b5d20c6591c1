-- One record changed: what is there, what stays, and the order of two changes.
use Rattle.std.proofs.Common.{◌≡◌, ◌≢◌, ℕ, refl, sym, ap, ◌∙◌, Option, Some, None, ⊎_elim}
use Rattle.std.specs.Prelude.{option_map}
use Rattle.std.proofs.lemmas.Bool.{cases_eq}
use Rattle.std.specs.FinMap.{get}
use Rattle.tree_model.specs.Tree.{Record, Records}
use Rattle.tree_model.specs.Making.{changed, change}
use Rattle.tree_model.proofs.Maps.{inserted, insert_keeps, same_gets}

pub change_at : (f : Record → Record) (rs : Records) (i : ℕ)
    → get (change f rs i) i ≡ option_map f (get rs i)
change_at f rs i = by_record (get rs i) refl where
  by_record : (o : Option Record) → get rs i ≡ o → get (changed f o rs i) i ≡ option_map f o
  by_record None at = at
  by_record (Some r) at = inserted rs i (f r)

pub change_keeps : (f : Record → Record) (rs : Records) (i q : ℕ) → q ≢ i
    → get (change f rs i) q ≡ get rs q
change_keeps f rs i q ne = by_record (get rs i) where
  by_record : (o : Option Record) → get (changed f o rs i) q ≡ get rs q
  by_record None = refl
  by_record (Some r) = insert_keeps rs i (f r) q ne

-- changes of two records can be made in either order
pub changes_commute : (f h : Record → Record) (rs : Records) (a b : ℕ) → a ≢ b
    → change f (change h rs a) b ≡ change h (change f rs b) a
changes_commute f h rs a b ne = same_gets _ _ (λ q. ⊎_elim
    (λ is. ap (get (change f (change h rs a) b)) is ∙ here
    ∙ sym (ap (get (change h (change f rs b) a)) is))
    (λ na. ⊎_elim
    (λ is. ap (get (change f (change h rs a) b)) is ∙ there
    ∙ sym (ap (get (change h (change f rs b) a)) is))
    (λ nb. change_keeps f (change h rs a) b q nb ∙ change_keeps h rs a q na
    ∙ sym (change_keeps h (change f rs b) a q na ∙ change_keeps f rs b q nb))
    (cases_eq q b))
    (cases_eq q a)) where
      here : get (change f (change h rs a) b) a ≡ get (change h (change f rs b) a) a
      here = change_keeps f (change h rs a) b a ne ∙ change_at h rs a
          ∙ sym (change_at h (change f rs b) a ∙ ap (option_map h) (change_keeps f rs b a ne))

      there : get (change f (change h rs a) b) b ≡ get (change h (change f rs b) a) b
      there = change_at f (change h rs a) b ∙ ap (option_map f)
          (change_keeps h rs a b (λ is. ne (sym is)))
          ∙ sym (change_keeps h (change f rs b) a b (λ is. ne (sym is)) ∙ change_at f rs b)
