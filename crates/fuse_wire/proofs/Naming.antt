-- A body that is read as a name is that name and a zero byte.
use Rattle.std.proofs.Common.{◌≡◌, ◌≢◌, ℕ, suc, ◌+◌, ◌<◌, Bool, true, false, cond, eqb, List, []}
use Rattle.std.proofs.Common.{◌∷◌, ◌++◌, length, take, drop, get_or, position, All, Some, None}
use Rattle.std.proofs.Common.{refl, sym, ap, ◌∙◌, subst, arith, eq-eqb, ne_eqb, lt-ltb}
use Rattle.std.proofs.Common.{length-append, take-append-drop, drop-cons, add-one}
use Rattle.std.specs.declared.option.Option.{Option}
use Rattle.std.specs.List.{position_or_len}
use Rattle.std.specs.Option.{option_map, option_and_then}
use Rattle.std.proofs.lemmas.Bool.{eqb-true, false≢true}
use Rattle.std.proofs.Math.ListN.{get_or-append}
use Rattle.std.proofs.Math.Seq.{get_or-append_seam}
use Rattle.std.proofs.lemmas.List.{length-take, length-drop, get_or-take, nil_from_length, take_at}
use Rattle.std.proofs.lemmas.List.Quantifiers.{position-Some}
use Rattle.std.proofs.lemmas.List.Sums.{position_or_len_is}
use Rattle.std.proofs.lemmas.List.Elements.{All-from_get_or}
use Rattle.fuse_wire.specs.Layouts.{is_zero, split_name, name_at, alone, only_name, IsName}

some_if : (b : Bool) (x y : List ℕ) → cond b (Some x) None ≡ Some y → (b ≡ true) × (x ≡ y)
some_if true x y e = (refl, cc)
some_if false x y e = absurd cc

ended_at : (body : List ℕ) (i : ℕ) → i < length body → is_zero (get_or body i 0) ≡ true
    → length (drop (i + 1) body) ≡ 0 → body ≡ take i body ++ 0 ∷ []
ended_at body i within zero_there last =
    let rest : drop (i + 1) body ≡ [] = nil_from_length _ last in
    let at : drop i body ≡ 0 ∷ [] = drop-cons body i 0 within
    ∙ ap (λ (b : ℕ). b ∷ drop (suc i) body) (eqb-true _ 0 zero_there)
    ∙ ap (λ (l : List ℕ). 0 ∷ l) (ap (λ (n : ℕ). drop n body) (sym (add-one i)) ∙ rest) in
    sym (take-append-drop i body) ∙ ap (λ (l : List ℕ). take i body ++ l) at

none_inside : (body : List ℕ) (i : ℕ) → ((k : ℕ) → k < i → is_zero (get_or body k 0) ≡ false)
    → All (λ byte. byte ≢ 0) (take i body)
none_inside body i before =
    All-from_get_or (λ byte. byte ≢ 0) (take i body) 0 (λ k within is_zero_there.
    let lt : k < i = omega (arith, length-take i body) in
    false≢true (sym (before k lt) ∙ eq-eqb (get_or body k 0) 0
    (sym (get_or-take i body k 0 lt) ∙ is_zero_there)))

read_at : (body name : List ℕ) (o : Option ℕ) → position is_zero body ≡ o
    → option_and_then alone (option_map (split_name body) o) ≡ Some name → IsName name body
read_at body name None at e = absurd cc
read_at body name (Some i) at e =
    let p = position-Some is_zero body i 0 at in
    let q = some_if (eqb (length (drop (i + 1) body)) 0) (take i body) name e in
    subst (λ (n : List ℕ). IsName n body) q.1
    (record {
      ended = ended_at body i p.0 p.1 (eqb-true _ 0 q.0);
      inside =
          none_inside body i p.2;
    })

pub name_read : (body name : List ℕ) → only_name body ≡ Some name → IsName name body
unfolding only_name name_at
name_read body name e = read_at body name (position is_zero body) refl e

found_at : (name : List ℕ) → All (λ byte. byte ≢ 0) name → position_or_len is_zero (name ++ 0 ∷ [])
    ≡ length name
found_at name inside =
    position_or_len_is is_zero (name ++ 0 ∷ []) (length name) 0
    (omega (arith, length-append name (0 ∷ [])))
    (λ k lt. rw (get_or-append name (0 ∷ []) 0 k lt) (ne_eqb (get_or name k 0) 0 (inside k 0 lt)))
    (λ _. rw (get_or-append_seam name 0 [] 0) refl)

position_found : (name : List ℕ) → All (λ byte. byte ≢ 0) name → position is_zero (name ++ 0 ∷ [])
    ≡ Some (length name)
position_found name inside = rw (
  found_at name inside,
  lt-ltb (length name)
      (length (name ++ 0 ∷ [])) (omega (arith, length-append name (0 ∷ []))),
) refl

found_so : (name : List ℕ) → All (λ byte. byte ≢ 0) name → only_name (name ++ 0 ∷ []) ≡ Some name
unfolding only_name name_at
found_so name inside =
    let nothing_after : length (drop (length name + 1) (name ++ 0 ∷ [])) ≡ 0 =
    omega (arith, length-drop (length name + 1) (name ++ 0 ∷ []), length-append name (0 ∷ []))
    in
    ap (λ (o : Option ℕ). option_and_then alone (option_map (split_name (name ++ 0 ∷ [])) o))
    (position_found name inside)
    ∙ (rw (eq-eqb _ 0 nothing_after, take_at name (0 ∷ []) (length name) refl) refl)

pub name_found : (body name : List ℕ) → IsName name body → only_name body ≡ Some name
name_found body name h = ap only_name h.ended ∙ found_so name h.inside
