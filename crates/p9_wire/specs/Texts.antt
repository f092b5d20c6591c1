-- Bytes behind their count: texts and data.
use Rattle.std.proofs.Common.{◌≡◌, ℕ, ◌<◌, Bool, true, false, cond, not, ◌&&◌, List, ◌++◌, length}
use Rattle.std.proofs.Common.{Result, Ok, Err, refl, sym, ap, subst, ◌∙◌, append_assoc, arith}
use Rattle.std.specs.Prelude.{nat_le, ◌==◌}
use Rattle.std.specs.List.{list_any}
use Rattle.std.specs.Str.{is_utf8}
use Rattle.std.proofs.lemmas.List.{append_cancel_left, take_at}
use Rattle.std.proofs.Common.{take}
use Rattle.p9_wire.specs.declared.error.WireError.{WireError}
use Rattle.p9_wire.specs.declared.error.WireError.TheVariants.{InvalidInput, InvalidData}
use Rattle.p9_wire.specs.Reading.{Reads, ◌>>=◌, then_read, give, refuse, bytes_at, fixed_at}
use Rattle.p9_wire.specs.Reading.{IsBytes, Always, Lawful, Refused, Decodes}
use Rattle.std.specs.declared.option.Option.{Option}
use Rattle.std.proofs.Common.{Some, None}
use Rattle.p9_wire.specs.Steps.{Took-nil, Decodes-give}
use Rattle.p9_wire.specs.Numbers.{bind_ok, found_same, IsCode, fixed_lawful, bytes_take}
use Rattle.p9_wire.specs.Numbers.{bytes_again}

-- UTF-8 without a zero byte
unfoldable pub is_text : List ℕ → Bool
is_text bs = is_utf8 bs && not (list_any (λ b. b == 0) bs)

abbrev pub read_if : {A : Type 0} → Bool → WireError → Reads A → Reads A
read_if b e r = cond b r (refuse e)

module _ (len : ℕ) (from : List ℕ → ℕ) (to : ℕ → List ℕ) (limit : ℕ) (test_len : ℕ → Bool)
    (test : List ℕ → Bool) where
  -- bytes behind their count, each with a test
  abbrev pub counted_reading : Reads (List ℕ)
  counted_reading = then_read (fixed_at len from)
      (λ n. read_if (test_len n) InvalidData
      (then_read (bytes_at n) (λ bs. read_if (test bs) InvalidInput (give bs))))

  abbrev pub counted_spelling : List ℕ → List ℕ
  counted_spelling bs = to (length bs) ++ bs

  abbrev pub CountedSpells : List ℕ → Type 0
  CountedSpells bs = (length bs < limit) × (test bs ≡ true)

  abbrev pub CountedIsReadable : List ℕ → Type 0
  CountedIsReadable bs = test_len (length bs) ≡ true

-- a test that did not fail
pub read_if_ok : {A : Type 0} (b : Bool) (e : WireError) (r : Reads A) (xs : List ℕ)
    (y : A × List ℕ) → read_if b e r xs ≡ Ok y → (b ≡ true) × (r xs ≡ Ok y)
read_if_ok true e r xs y h = (refl, h)
read_if_ok false e r xs y h = absurd cc

module _ (len : ℕ) (from : List ℕ → ℕ) (to : ℕ → List ℕ) (limit : ℕ)
    (code : IsCode len from to limit) (test_len : ℕ → Bool) (test : List ℕ → Bool) where
  law : Lawful (λ (n : ℕ). n < limit) to Always Always (fixed_at len from)
  law = fixed_lawful len from to limit code

  counted_takes : (xs rest p : List ℕ) → IsBytes xs
      → counted_reading len from to limit test_len test xs ≡ Ok (p, rest) → Unit {0}
      → (xs ≡ counted_spelling len from to limit test_len test p ++ rest)
      × CountedSpells len from to limit test_len test p
      × CountedIsReadable len from to limit test_len test p
  counted_takes xs rest p fits e s =
      let x = bind_ok (fixed_at len from xs)
      (λ x. read_if (test_len x.0) InvalidData
      (then_read (bytes_at x.0) (λ bs. read_if (test bs) InvalidInput (give bs))) x.1)
      (p, rest) e in
      let a = read_if_ok (test_len x.0.0) InvalidData
      (then_read (bytes_at x.0.0) (λ bs. read_if (test bs) InvalidInput (give bs))) x.0.1
      (p, rest) x.2 in
      let y = bind_ok (bytes_at x.0.0 x.0.1) (λ y. read_if (test y.0) InvalidInput (give y.0) y.1)
      (p, rest) a.1 in
      let b = read_if_ok (test y.0.0) InvalidInput (give y.0.0) y.0.1 (p, rest) y.2 in
      let t = law.takes xs x.0.1 x.0.0 fits x.1 tt in
      let u = bytes_take x.0.0 x.0.1 y.0.0 y.0.1 y.1 in
      let whole : xs ≡ (to (length y.0.0) ++ y.0.0) ++ y.0.1 = t.0
      ∙ ap (λ (l : List ℕ). to x.0.0 ++ l) u.0
      ∙ ap (λ (n : ℕ). to n ++ (y.0.0 ++ y.0.1)) (sym u.1)
      ∙ sym (append_assoc (to (length y.0.0)) y.0.0 y.0.1) in
      subst (λ (z : List ℕ × List ℕ). (xs ≡ counted_spelling len from to limit test_len test z.0
      ++ z.1) × CountedSpells len from to limit test_len test z.0
      × CountedIsReadable len from to limit test_len test z.0)
      (found_same (y.0.0, y.0.1) (p, rest) b.1)
      (whole, (omega (arith, u.1, t.1), b.0), ap test_len u.1 ∙ a.0)

  counted_again : (p rest : List ℕ) → CountedSpells len from to limit test_len test p
      → CountedIsReadable len from to limit test_len test p
      → counted_reading len from to limit test_len test
      (counted_spelling len from to limit test_len test p ++ rest) ≡ Ok (p, rest)
  counted_again p rest a b =
      let one : fixed_at len from ((to (length p) ++ p) ++ rest) ≡ Ok (length p, p ++ rest) =
      ap (fixed_at len from) (append_assoc (to (length p)) p rest)
      ∙ law.again (length p) (p ++ rest) a.0 tt in
      let two : bytes_at (length p) (p ++ rest) ≡ Ok (p, rest) =
      bytes_again p rest (length p) refl in
      ap (λ (r : Result (ℕ × List ℕ) WireError). r >>= λ x. read_if (test_len x.0) InvalidData
      (then_read (bytes_at x.0) (λ bs. read_if (test bs) InvalidInput (give bs))) x.1) one
      ∙ ap (λ (t : Bool). read_if t InvalidData
      (then_read (bytes_at (length p)) (λ bs. read_if (test bs) InvalidInput (give bs)))
      (p ++ rest)) b
      ∙ ap (λ (r : Result (List ℕ × List ℕ) WireError). r >>= λ y. read_if (test y.0) InvalidInput
      (give y.0) y.1) two
      ∙ ap (λ (t : Bool). read_if t InvalidInput (give p) rest) a.1

  counted_unique : (p q x y : List ℕ) → CountedSpells len from to limit test_len test p
      → CountedSpells len from to limit test_len test q
      → counted_spelling len from to limit test_len test p ++ x
      ≡ counted_spelling len from to limit test_len test q ++ y → p ≡ q
  counted_unique p q x y a b e =
      let e' : to (length p) ++ (p ++ x) ≡ to (length q) ++ (q ++ y) =
      sym (append_assoc (to (length p)) p x) ∙ e ∙ append_assoc (to (length q)) q y in
      let same : length p ≡ length q = law.unique (length p) (length q) (p ++ x)
      (q ++ y) a.0 b.0 e' in
      let after : p ++ x ≡ q ++ y = append_cancel_left (to (length p)) (p ++ x) (q ++ y)
      (e' ∙ ap (λ n. to n ++ (q ++ y)) (sym same)) in
      sym (take_at p x (length p) refl) ∙ ap (take (length p)) after
      ∙ take_at q y (length p) (sym same)

  pub counted_lawful : Lawful (CountedSpells len from to limit test_len test)
      (counted_spelling len from to limit test_len test) Always
      (CountedIsReadable len from to limit test_len test)
      (counted_reading len from to limit test_len test)
  counted_lawful = record { takes = counted_takes; again = counted_again; unique = counted_unique }

-- ---- the two uses

abbrev pub any_len : ℕ → Bool
any_len n = true

abbrev pub any_bytes : List ℕ → Bool
any_bytes bs = true

abbrev pub data_len : ℕ → Bool
data_len n = nat_le n 33554432

Refused-nothing : {P : Type 0} (r : Reads P) (a : Option (List ℕ))
    → Refused (read_if false InvalidInput r) a InvalidInput
Refused-nothing r None = tt
Refused-nothing r (Some xs) = refl

pub Decodes-refused : {V P : Type 0} (view : V → P) (r : Reads P) (b : Bool) (a : Option (List ℕ))
    (f : ℕ) → b ≡ false → Decodes view (read_if b InvalidInput r) a a f f (Err InvalidInput)
Decodes-refused view r b a f e = subst (λ (t : Bool). Decodes view
    (read_if t InvalidInput r) a a f f (Err InvalidInput)) (sym e)
    (record { took = Took-nil a; answer = (refl, Refused-nothing r a) })

pub Decodes-accepted : {V P : Type 0} (view : V → P) (d : WireError) (v : V) (b : Bool)
    (a : Option (List ℕ)) (f : ℕ) → b ≡ true
    → Decodes view (read_if b d (give (view v))) a a f f (Ok v)
Decodes-accepted view d v b a f e = subst
    (λ (t : Bool). Decodes view (read_if t d (give (view v))) a a f f (Ok v)) (sym e)
    (Decodes-give view v a f)

pub Decodes-passed : {V P : Type 0} (view : V → P) (b : Bool) (d : WireError) (r : Reads P)
    (a c : Option (List ℕ)) (f0 f1 : ℕ) (res : Result V WireError) → b ≡ true
    → Decodes view r a c f0 f1 res → Decodes view (read_if b d r) a c f0 f1 res
Decodes-passed view b d r a c f0 f1 res e h =
    subst (λ (t : Bool). Decodes view (read_if t d r) a c f0 f1 res) (sym e) h
