-- Any number of values, behind their count.
use Rattle.std.proofs.Common.{◌≡◌, ℕ, zero, suc, ◌^◌, ◌<◌, List, [], ◌∷◌, ◌++◌, length, Result, Ok}
use Rattle.std.proofs.Common.{Err, None, Some, refl, sym, ap, subst, ◌∙◌, append_assoc, arith}
use Rattle.std.proofs.lemmas.List.{append-nil, append_cancel_left}
use Rattle.std.specs.List.{flat_map, AllByRecursion}
use Rattle.std.specs.declared.option.Option.{Option}
use Rattle.std.specs.Int.{w16, from_le_bytes, to_le_bytes}
use Rattle.p9_wire.specs.declared.error.WireError.{WireError}
use Rattle.p9_wire.specs.declared.error.WireError.TheVariants.{InvalidInput, InvalidData}
use Rattle.p9_wire.specs.declared.error.WireError.TheVariants.{UnexpectedEof, Read, Write, NoMemory}
use Rattle.p9_wire.specs.Reading.{Reads, ◌>>=◌, then_read, give, fixed_at, IsBytes, Always, Lawful}
use Rattle.p9_wire.specs.Reading.{Took, Found, Refused, Answers, Decodes}
use Rattle.p9_wire.specs.Numbers.{bind_ok, found_same, IsBytes-after, code16, fixed_lawful}
use Rattle.p9_wire.specs.Steps.{Took-nil, Took-trans}

abbrev pub count_at : Reads ℕ
count_at = fixed_at 2 (from_le_bytes w16)

-- n values, one after another
unfoldable pub times : {P : Type 0} → Reads P → ℕ → Reads (List P)
times r zero = give []
times r (suc n) = then_read r (λ x. then_read (times r n) (λ xs. give (x ∷ xs)))

abbrev pub ItemsSpell : {P : Type 0} → (P → Type 0) → List P → Type 0
ItemsSpell S ps = (length ps < 2 ^ 16) × AllByRecursion S ps

abbrev pub items_spelling : {P : Type 0} → (P → List ℕ) → List P → List ℕ
items_spelling s ps = to_le_bytes w16 (length ps) ++ flat_map s ps

abbrev pub items_reading : {P : Type 0} → Reads P → Reads (List P)
items_reading r = then_read count_at (times r)

module _ {P : Type 0} (S : P → Type 0) (s : P → List ℕ) (W R : P → Type 0) (r : Reads P)
    (law : Lawful S s W R r) where
  times_take : (n : ℕ) (xs rest : List ℕ) (ps : List P) → IsBytes xs → times r n xs ≡ Ok (ps, rest)
      → AllByRecursion W ps → (xs ≡ flat_map s ps ++ rest) × (length ps ≡ n) × AllByRecursion S ps
      × AllByRecursion R ps
  unfolding times
  times_take zero xs rest ps fits e w =
      subst (λ (z : List P × List ℕ). (xs ≡ flat_map s z.0 ++ z.1) × (length z.0 ≡ 0)
      × AllByRecursion S z.0 × AllByRecursion R z.0) (found_same ([], xs) (ps, rest) e)
      (refl, refl, tt, tt)
  times_take (suc n) xs rest ps fits e w =
      let x = bind_ok (r xs) (λ x. then_read (times r n) (λ ys. give (x.0 ∷ ys)) x.1)
      (ps, rest) e in
      let y = bind_ok (times r n x.0.1) (λ y. Ok (x.0.0 ∷ y.0, y.1)) (ps, rest) x.2 in
      let sound = subst (λ (z : List P × List ℕ). AllByRecursion W z.0)
      (sym (found_same (x.0.0 ∷ y.0.0, y.0.1) (ps, rest) y.2)) w in
      let t = law.takes xs x.0.1 x.0.0 fits x.1 sound.0 in
      let u = times_take n x.0.1 y.0.1 y.0.0
      (IsBytes-after (s x.0.0) x.0.1 (subst IsBytes t.0 fits)) y.1 sound.1 in
      let whole : xs ≡ flat_map s (x.0.0 ∷ y.0.0) ++ y.0.1 = t.0
      ∙ ap (λ (l : List ℕ). s x.0.0 ++ l) u.0
      ∙ sym (append_assoc (s x.0.0) (flat_map s y.0.0) y.0.1) in
      subst (λ (z : List P × List ℕ). (xs ≡ flat_map s z.0 ++ z.1) × (length z.0 ≡ suc n)
      × AllByRecursion S z.0 × AllByRecursion R z.0)
      (found_same (x.0.0 ∷ y.0.0, y.0.1) (ps, rest) y.2)
      (whole, ap suc u.1, (t.1, u.2), (t.2, u.3))

  times_again : (ps : List P) (rest : List ℕ) → AllByRecursion S ps → AllByRecursion R ps
      → times r (length ps) (flat_map s ps ++ rest) ≡ Ok (ps, rest)
  unfolding times
  times_again [] rest a b = refl
  times_again (p ∷ ps) rest a b =
      let one : r ((s p ++ flat_map s ps) ++ rest) ≡ Ok (p, flat_map s ps ++ rest) =
      ap r (append_assoc (s p) (flat_map s ps) rest)
      ∙ law.again p (flat_map s ps ++ rest) a.0 b.0 in
      rw (one, times_again ps rest a.1 b.1) refl

  times_unique : (ps qs : List P) (x y : List ℕ) → length ps ≡ length qs → AllByRecursion S ps
      → AllByRecursion S qs → flat_map s ps ++ x ≡ flat_map s qs ++ y → ps ≡ qs
  times_unique [] [] x y len a b e = refl
  times_unique [] (q ∷ qs) x y len a b e = absurd cc
  times_unique (p ∷ ps) [] x y len a b e = absurd cc
  times_unique (p ∷ ps) (q ∷ qs) x y len a b e =
      let e' : s p ++ (flat_map s ps ++ x) ≡ s q ++ (flat_map s qs ++ y) =
      sym (append_assoc (s p) (flat_map s ps) x) ∙ e ∙ append_assoc (s q) (flat_map s qs) y in
      let first : p ≡ q = law.unique p q (flat_map s ps ++ x) (flat_map s qs ++ y) a.0 b.0 e' in
      let after : flat_map s ps ++ x ≡ flat_map s qs ++ y =
      append_cancel_left (s p) (flat_map s ps ++ x) (flat_map s qs ++ y)
      (e' ∙ ap (λ z. s z ++ (flat_map s qs ++ y)) (sym first)) in
      let others : ps ≡ qs = times_unique ps qs x y (omega (arith, len)) a.1 b.1 after in
      cc

  law16 : Lawful (λ (n : ℕ). n < 2 ^ 16) (to_le_bytes w16) Always Always count_at
  law16 = fixed_lawful 2 (from_le_bytes w16) (to_le_bytes w16) (2 ^ 16) code16

  items_take : (xs rest : List ℕ) (ps : List P) → IsBytes xs → items_reading r xs ≡ Ok (ps, rest)
      → AllByRecursion W ps → (xs ≡ items_spelling s ps ++ rest) × ItemsSpell S ps
      × AllByRecursion R ps
  items_take xs rest ps fits e w =
      let x = bind_ok (count_at xs) (λ x. times r x.0 x.1) (ps, rest) e in
      let t = law16.takes xs x.0.1 x.0.0 fits x.1 tt in
      let u = times_take x.0.0 x.0.1 rest ps
      (IsBytes-after (to_le_bytes w16 x.0.0) x.0.1 (subst IsBytes t.0 fits)) x.2 w in
      let whole : xs ≡ items_spelling s ps ++ rest = t.0
      ∙ ap (λ (n : ℕ). to_le_bytes w16 n ++ x.0.1) (sym u.1)
      ∙ ap (λ (l : List ℕ). to_le_bytes w16 (length ps) ++ l) u.0
      ∙ sym (append_assoc (to_le_bytes w16 (length ps)) (flat_map s ps) rest) in
      (whole, (omega (arith, u.1, t.1), u.2), u.3)

  items_again : (ps : List P) (rest : List ℕ) → ItemsSpell S ps → AllByRecursion R ps
      → items_reading r (items_spelling s ps ++ rest) ≡ Ok (ps, rest)
  items_again ps rest a b =
      let one : count_at (items_spelling s ps ++ rest) ≡ Ok (length ps, flat_map s ps ++ rest) =
      ap count_at (append_assoc (to_le_bytes w16 (length ps)) (flat_map s ps) rest)
      ∙ law16.again (length ps) (flat_map s ps ++ rest) a.0 tt in
      rw one (times_again ps rest a.1 b)

  items_unique : (ps qs : List P) (x y : List ℕ) → ItemsSpell S ps → ItemsSpell S qs
      → items_spelling s ps ++ x ≡ items_spelling s qs ++ y → ps ≡ qs
  items_unique ps qs x y a b e =
      let n = to_le_bytes w16 (length ps) in
      let m = to_le_bytes w16 (length qs) in
      let e' : n ++ (flat_map s ps ++ x) ≡ m ++ (flat_map s qs ++ y) =
      sym (append_assoc n (flat_map s ps) x) ∙ e ∙ append_assoc m (flat_map s qs) y in
      let len : length ps ≡ length qs = law16.unique (length ps) (length qs) (flat_map s ps ++ x)
      (flat_map s qs ++ y) a.0 b.0 e' in
      let after : flat_map s ps ++ x ≡ flat_map s qs ++ y =
      append_cancel_left n (flat_map s ps ++ x) (flat_map s qs ++ y)
      (e' ∙ ap (λ k. to_le_bytes w16 k ++ (flat_map s qs ++ y)) (sym len)) in
      times_unique ps qs x y len a.1 b.1 after

  pub items_lawful : Lawful (ItemsSpell S) (items_spelling s) (AllByRecursion W) (AllByRecursion R)
      (items_reading r)
  items_lawful = record { takes = items_take; again = items_again; unique = items_unique }

-- ---- a loop that reads n values

-- what was read before, and what is still read
abbrev pub with_front : {P : Type 0} → List P → Result (List P × List ℕ) WireError
    → Result (List P × List ℕ) WireError
with_front front read = read >>= λ x. Ok (front ++ x.0, x.1)

abbrev with_head : {P : Type 0} → P → Result (List P × List ℕ) WireError
    → Result (List P × List ℕ) WireError
with_head p read = read >>= λ x. Ok (p ∷ x.0, x.1)

-- what is read in all is what is in front, and what is still read
abbrev pub On : {P : Type 0} → Reads (List P) → Reads (List P) → List P → Option (List ℕ)
    → Option (List ℕ) → Type 0
On whole rest front None b = Unit {0}
On whole rest front (Some xs) None = ⊥
On whole rest front (Some xs) (Some ys) = whole xs ≡ with_front front (rest ys)

pub record Along {P : Type 0} (r : Reads P) (count n : ℕ) (front : List P) (a b : Option (List ℕ))
    (f0 f1 : ℕ) : Type 0 where
  pub took : Took a b
  pub same : f1 ≡ f0
  pub on : On (times r count) (times r n) front a b

nothing_yet : {P : Type 0} (res : Result (List P × List ℕ) WireError) → res ≡ with_front [] res
nothing_yet (Ok x) = refl
nothing_yet (Err e) = refl

regroup : {P : Type 0} (front : List P) (p : P) (res : Result (List P × List ℕ) WireError)
    → with_front front (with_head p res) ≡ with_front (front ++ p ∷ []) res
regroup front p (Ok x) = ap (λ ps. Ok (ps, x.1)) (simp append_assoc)
regroup front p (Err e) = refl

module _ {P : Type 0} (r : Reads P) where
  On-begin : (n : ℕ) (a : Option (List ℕ)) → On (times r n) (times r n) [] a a
  On-begin n None = tt
  On-begin n (Some xs) = nothing_yet (times r n xs)

  pub Along-begin : (n : ℕ) (a : Option (List ℕ)) (f : ℕ) → Along r n n [] a a f f
  Along-begin n a f = record { took = Took-nil a; same = refl; on = On-begin n a }

  On-more : (count n : ℕ) (front : List P) (a b c : Option (List ℕ)) (p : P)
      → On (times r count) (times r (suc n)) front a b → Found r b c p
      → On (times r count) (times r n) (front ++ p ∷ []) a c
  unfolding times
  On-more count n front None b c p h k = tt
  On-more count n front (Some xs) None c p h k = absurd h
  On-more count n front (Some xs) (Some ys) None p h k = absurd k
  On-more count n front (Some xs) (Some ys) (Some zs) p h k =
      let next : with_front front (times r (suc n) ys)
      ≡ with_front (front ++ p ∷ []) (times r n zs) = rw k (regroup front p (times r n zs)) in
      h ∙ next

  pub Along-more : {V : Type 0} (view : V → P) (count n m : ℕ) (front : List P)
      (a b c : Option (List ℕ)) (f0 f1 f2 : ℕ) (v : V) → m ≡ suc n
      → Along r count m front a b f0 f1 → Decodes view r b c f1 f2 (Ok v)
      → Along r count n (front ++ view v ∷ []) a c f0 f2
  Along-more view count n m front a b c f0 f1 f2 v e h k =
      record {
        took = Took-trans a b c h.took k.took;
        same = k.answer.0 ∙ h.same;
        on =
            On-more count n front a b c (view v)
            (subst (λ (j : ℕ). On (times r count) (times r j) front a b) e h.on) k.answer.1;
      }

  Refused-on : (count n : ℕ) (front : List P) (a b : Option (List ℕ)) (e : WireError)
      → On (times r count) (times r (suc n)) front a b → Refused r b e
      → Refused (times r count) a e
  unfolding times
  Refused-on count n front None b e h k = tt
  Refused-on count n front (Some xs) None e h k = absurd h
  Refused-on count n front (Some xs) (Some ys) e h k =
      let next : with_front front (times r (suc n) ys) ≡ Err e = rw k refl in
      h ∙ next

  module _ {V W : Type 0} (view : V → P) (view' : W → List P) (count n m : ℕ) (front : List P)
      (a b c : Option (List ℕ)) (f0 f1 f2 : ℕ) (at : m ≡ suc n) where
    Answers-stop : (e : WireError) → f1 ≡ f0 → On (times r count) (times r (suc n)) front a b
        → Answers view r b c f1 f2 (Err e) → Answers view' (times r count) a c f0 f2 (Err e)
    Answers-stop InvalidInput same h k = (
      k.0
          ∙ same,
      Refused-on count n front a b InvalidInput h k.1,
    )
    Answers-stop InvalidData same h k = (k.0 ∙ same, Refused-on count n front a b InvalidData h k.1)
    Answers-stop UnexpectedEof same h k = (
      k.0
          ∙ same,
      Refused-on count n front a b UnexpectedEof h k.1,
    )
    Answers-stop Read same h k = (omega (arith, k.0, same), omega (arith, k.1, same))
    Answers-stop Write same h k = k
    Answers-stop NoMemory same h k = k ∙ same

    pub Along-stops : (e : WireError) → Along r count m front a b f0 f1
        → Decodes view r b c f1 f2 (Err e) → Decodes view' (times r count) a c f0 f2 (Err e)
    Along-stops e h k = record {
      took = Took-trans a b c h.took k.took;
      answer =
          Answers-stop e h.same (subst (λ (j : ℕ). On (times r count) (times r j) front a b) at
          h.on)
          k.answer;
    }

  Found-done : (count : ℕ) (front : List P) (a b : Option (List ℕ))
      → On (times r count) (times r 0) front a b → Found (times r count) a b front
  unfolding times
  Found-done count front None b h = tt
  Found-done count front (Some xs) None h = h
  Found-done count front (Some xs) (Some ys) h = h
      ∙ ap (λ (ps : List P). Ok (ps, ys)) (append-nil front)

  pub Along-done : {W : Type 0} (view' : W → List P) (count m : ℕ) (a b : Option (List ℕ))
      (f0 f1 : ℕ) (w : W) → m ≡ 0 → Along r count m (view' w) a b f0 f1
      → Decodes view' (times r count) a b f0 f1 (Ok w)
  Along-done view' count m a b f0 f1 w e h =
      record {
        took = h.took;
        answer = (
          h.same,
          Found-done count (view' w) a b
              (subst (λ (j : ℕ). On (times r count) (times r j) (view' w) a b) e h.on),
        );
      }

  pub Along-memory : {W : Type 0} (view' : W → List P) (count m : ℕ) (front : List P)
      (a b : Option (List ℕ)) (f0 f1 : ℕ) → Along r count m front a b f0 f1
      → Decodes view' (times r count) a b f0 f1 (Err NoMemory)
  Along-memory view' count m front a b f0 f1 h = record { took = h.took; answer = h.same }
