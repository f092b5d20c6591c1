-- Two fields, one after the other.
use Rattle.std.proofs.Common.{◌≡◌, ℕ, List, ◌++◌, Ok, refl, sym, ap, subst, ◌∙◌, append_assoc}
use Rattle.std.proofs.lemmas.List.{append_cancel_left}
use Rattle.p9_wire.specs.Reading.{Reads, then_read, give, IsBytes, Lawful}
use Rattle.p9_wire.specs.Numbers.{bind_ok, found_same, IsBytes-after}

abbrev pub pair_view : {V W P Q : Type 0} → (V → P) → (W → Q) → V × W → P × Q
pair_view v w x = (v x.0, w x.1)

abbrev pub PairSpells : {P Q : Type 0} → (P → Type 0) → (Q → Type 0) → P × Q → Type 0
PairSpells A B p = A p.0 × B p.1

abbrev pub pair_spelling : {P Q : Type 0} → (P → List ℕ) → (Q → List ℕ) → P × Q → List ℕ
pair_spelling a b p = a p.0 ++ b p.1

abbrev pub pair_reading : {P Q : Type 0} → Reads P → Reads Q → Reads (P × Q)
pair_reading a b = then_read a (λ x. then_read b (λ y. give (x, y)))

pair_same : {P Q : Type 0} (p q : P × Q) → p.0 ≡ q.0 → p.1 ≡ q.1 → p ≡ q
pair_same p q e f = λ t. (e t, f t)

module _ {P Q : Type 0} (SA : P → Type 0) (sa : P → List ℕ) (WA RA : P → Type 0) (ra : Reads P)
    (SB : Q → Type 0) (sb : Q → List ℕ) (WB RB : Q → Type 0) (rb : Reads Q)
    (a : Lawful SA sa WA RA ra) (b : Lawful SB sb WB RB rb) where
  pair_takes : (xs rest : List ℕ) (p : P × Q) → IsBytes xs → pair_reading ra rb xs ≡ Ok (p, rest)
      → PairSpells WA WB p → (xs ≡ pair_spelling sa sb p ++ rest) × PairSpells SA SB p
      × PairSpells RA RB p
  pair_takes xs rest p fits e w =
      let x = bind_ok (ra xs) (λ x. then_read rb (λ y. give (x.0, y)) x.1) (p, rest) e in
      let y = bind_ok (rb x.0.1) (λ y. Ok ((x.0.0, y.0), y.1)) (p, rest) x.2 in
      let sound = subst (λ (z : (P × Q) × List ℕ). PairSpells WA WB z.0)
      (sym (found_same ((x.0.0, y.0.0), y.0.1) (p, rest) y.2)) w in
      let t = a.takes xs x.0.1 x.0.0 fits x.1 sound.0 in
      let u = b.takes x.0.1 y.0.1 y.0.0 (IsBytes-after (sa x.0.0) x.0.1 (subst IsBytes t.0 fits))
      y.1 sound.1 in
      let whole : xs ≡ (sa x.0.0 ++ sb y.0.0) ++ y.0.1 = t.0
      ∙ ap (λ (l : List ℕ). sa x.0.0 ++ l) u.0
      ∙ sym (append_assoc (sa x.0.0) (sb y.0.0) y.0.1) in
      subst (λ (z : (P × Q) × List ℕ). (xs ≡ pair_spelling sa sb z.0 ++ z.1) × PairSpells SA SB z.0
      × PairSpells RA RB z.0) (found_same ((x.0.0, y.0.0), y.0.1) (p, rest) y.2)
      (whole, (t.1, u.1), (t.2, u.2))

  pair_again : (p : P × Q) (rest : List ℕ) → PairSpells SA SB p → PairSpells RA RB p
      → pair_reading ra rb (pair_spelling sa sb p ++ rest) ≡ Ok (p, rest)
  pair_again p rest s r =
      let one : ra ((sa p.0 ++ sb p.1) ++ rest) ≡ Ok (p.0, sb p.1 ++ rest) =
      ap ra (append_assoc (sa p.0) (sb p.1) rest) ∙ a.again p.0 (sb p.1 ++ rest) s.0 r.0 in
      rw (one, b.again p.1 rest s.1 r.1) refl

  pair_unique : (p q : P × Q) (x y : List ℕ) → PairSpells SA SB p → PairSpells SA SB q
      → pair_spelling sa sb p ++ x ≡ pair_spelling sa sb q ++ y → p ≡ q
  pair_unique p q x y s t e =
      let e' : sa p.0 ++ (sb p.1 ++ x) ≡ sa q.0 ++ (sb q.1 ++ y) =
      sym (append_assoc (sa p.0) (sb p.1) x) ∙ e ∙ append_assoc (sa q.0) (sb q.1) y in
      let first : p.0 ≡ q.0 = a.unique p.0 q.0 (sb p.1 ++ x) (sb q.1 ++ y) s.0 t.0 e' in
      let after : sb p.1 ++ x ≡ sb q.1 ++ y =
      append_cancel_left (sa p.0) (sb p.1 ++ x) (sb q.1 ++ y)
      (e' ∙ ap (λ z. sa z ++ (sb q.1 ++ y)) (sym first)) in
      let second : p.1 ≡ q.1 = b.unique p.1 q.1 x y s.1 t.1 after in
      pair_same p q first second

  pub pair_lawful : Lawful (PairSpells SA SB) (pair_spelling sa sb) (PairSpells WA WB)
      (PairSpells RA RB) (pair_reading ra rb)
  pair_lawful = record { takes = pair_takes; again = pair_again; unique = pair_unique }

-- the law of two fields
pub both : {P Q : Type 0} {SA : P → Type 0} {sa : P → List ℕ} {WA RA : P → Type 0} {ra : Reads P}
    {SB : Q → Type 0} {sb : Q → List ℕ} {WB RB : Q → Type 0} {rb : Reads Q} → Lawful SA sa WA RA ra
    → Lawful SB sb WB RB rb → Lawful (PairSpells SA SB) (pair_spelling sa sb) (PairSpells WA WB)
    (PairSpells RA RB) (pair_reading ra rb)
both {SA} {sa} {WA} {RA} {ra} {SB} {sb} {WB} {RB} {rb} a b =
    pair_lawful SA sa WA RA ra SB sb WB RB rb a b
