-- Messages of many types: a reading that chooses by the type, and its law from the laws of the
-- fields.
use Rattle.std.proofs.Common.{◌≡◌, ℕ, Bool, true, false, cond, List, [], ◌++◌, Result, Ok, refl}
use Rattle.std.proofs.Common.{sym, ap, subst, ◌∙◌}
use Rattle.std.specs.Prelude.{◌==◌, if◌then◌else◌}
use Rattle.std.proofs.lemmas.Bool.{eqb-true}
use Rattle.p9_wire.specs.declared.error.WireError.{WireError}
use Rattle.p9_wire.specs.Reading.{Reads, ◌>>=◌, then_read, give, refuse, IsBytes, Always, Lawful}
use Rattle.p9_wire.specs.Numbers.{bind_ok, found_same}

-- fields, as the message that has them
abbrev pub as_message : {A M : Type 0} → Reads A → (A → M) → Reads M
as_message r make = then_read r (λ x. give (make x))

-- a message whose fields are read back is read back
pub again_as : {A M : Type 0} {S : A → Type 0} {s : A → List ℕ} {R : A → Type 0} {r : Reads A}
    → Lawful S s Always R r → (make : A → M) (x : A) (rest : List ℕ) → S x → R x
    → as_message r make (s x ++ rest) ≡ Ok (make x, rest)
again_as {A} law make x rest a b = ap (λ (z : Result (A × List ℕ) WireError). z >>= λ y. Ok
    (make y.0, y.1)) (law.again x rest a b)

module _ {M : Type 0} (kind_of : M → ℕ) (Spells : M → Type 0) (spelling : M → List ℕ)
    (IsReadable : M → Type 0) where
  -- what this reading gives is a message of the type that is spelled so
  abbrev pub Takes : ℕ → Reads M → Type 0
  Takes kind r = (xs rest : List ℕ) (m : M) → IsBytes xs → r xs ≡ Ok (m, rest) → (kind_of m ≡ kind)
      × ((xs ≡ spelling m ++ rest) × Spells m × IsReadable m)

  -- the fields determine type, spelling and facts of the message
  pub record Fits {A : Type 0} (kind : ℕ) (make : A → M) (S : A → Type 0) (s : A → List ℕ)
      (R : A → Type 0) : Type 0 where
    pub type : (x : A) → kind_of (make x) ≡ kind
    pub bytes : (x : A) → spelling (make x) ≡ s x
    pub spells : (x : A) → S x → Spells (make x)
    pub readable : (x : A) → R x → IsReadable (make x)

  pub takes_as : {A : Type 0} {S : A → Type 0} {s : A → List ℕ} {R : A → Type 0} {r : Reads A}
      → Lawful S s Always R r → (kind : ℕ) (make : A → M) → Fits kind make S s R
      → Takes kind (as_message r make)
  takes_as {A} {S} {s} {R} {r} law kind make fit xs rest m fits e =
      let x = bind_ok (r xs) (λ x. Ok (make x.0, x.1)) (m, rest) e in
      let t = law.takes xs x.0.1 x.0.0 fits x.1 tt in
      let same : (make x.0.0, x.0.1) ≡ (m, rest) = found_same (make x.0.0, x.0.1) (m, rest) x.2 in
      let spelled : xs ≡ spelling (make x.0.0) ++ x.0.1 = t.0
      ∙ ap (λ (l : List ℕ). l ++ x.0.1) (sym (fit.bytes x.0.0)) in
      subst (λ (z : M × List ℕ). (kind_of z.0 ≡ kind)
      × ((xs ≡ spelling z.0 ++ z.1) × Spells z.0 × IsReadable z.0)) same
      (fit.type x.0.0, (spelled, fit.spells x.0.0 t.1, fit.readable x.0.0 t.2))

  -- a message without fields
  pub takes_give : (kind : ℕ) (m : M) → kind_of m ≡ kind → spelling m ≡ [] → Spells m
      → IsReadable m → Takes kind (give m)
  takes_give kind m type bytes spells readable xs rest n fits e =
      let same : (m, xs) ≡ (n, rest) = found_same (m, xs) (n, rest) e in
      let spelled : xs ≡ spelling m ++ xs = ap (λ (l : List ℕ). l ++ xs) (sym bytes) in
      subst (λ (z : M × List ℕ). (kind_of z.0 ≡ kind)
      × ((xs ≡ spelling z.0 ++ z.1) × Spells z.0 × IsReadable z.0)) same
      (type, (spelled, spells, readable))

  pub takes_none : (kind : ℕ) (e : WireError) → Takes kind (refuse e)
  takes_none kind e xs rest m fits h = absurd cc

  takes_cond : (kind n : ℕ) (b : Bool) (r1 r2 : Reads M) → (b ≡ true → kind ≡ n) → Takes n r1
      → Takes kind r2 → Takes kind (cond b r1 r2)
  takes_cond kind n true r1 r2 is a c xs rest m fits h = let t =
      a xs rest m fits h in (t.0 ∙ sym (is refl), t.1)
  takes_cond kind n false r1 r2 is a c xs rest m fits h = c xs rest m fits h

  -- one more type that the reading chooses by
  pub takes_if : (kind n : ℕ) (r1 r2 : Reads M) → Takes n r1 → Takes kind r2
      → Takes kind (if kind == n then r1 else r2)
  takes_if kind n r1 r2 a c = takes_cond kind n (kind == n) r1 r2 (eqb-true kind n) a c

  -- messages that some reading gives back have spellings of their own
  pub unique_by : (r : ℕ → Reads M) → ((m : M) (rest : List ℕ) → Spells m
      → r (kind_of m) (spelling m ++ rest) ≡ Ok (m, rest)) → (m n : M) (x y : List ℕ) → Spells m
      → Spells n → kind_of m ≡ kind_of n → spelling m ++ x ≡ spelling n ++ y → m ≡ n
  unique_by r again m n x y a b kinds e =
      let left : r (kind_of n) (spelling n ++ y) ≡ Ok (m, x) =
      ap (λ (l : List ℕ). r (kind_of n) l) (sym e)
      ∙ ap (λ (k : ℕ). r k (spelling m ++ x)) (sym kinds) ∙ again m x a in
      let right : r (kind_of n) (spelling n ++ y) ≡ Ok (n, y) = again n y b in
      ap (λ (p : M × List ℕ). p.0) (found_same (m, x) (n, y) (sym left ∙ right))
