-- Numbers of a fixed number of bytes, the least first.
use Rattle.std.proofs.Common.{◌≡◌, ℕ, ◌+◌, ◌^◌, ◌<◌, ◌≤◌, Bool, true, false, cond, ltb, List, []}
use Rattle.std.proofs.Common.{◌∷◌, ◌++◌, length, get_or, take, drop, Result, Ok, Err, None, Some}
use Rattle.std.proofs.Common.{refl, sym, ap, subst, ◌∙◌, arith, inl, inr}
use Rattle.std.specs.declared.option.Option.{Option}
use Rattle.std.specs.Int.{w16, w32, w64, from_le_bytes, to_le_bytes}
use Rattle.std.specs.Io.KnownBytes.{Consumes}
use Rattle.std.proofs.lemmas.Bool.{cases_lt, ltb-false, le-ltb, lt-ltb}
use Rattle.std.proofs.lemmas.List.{take_at, drop_at, take-append-drop, length-append, length-take}
use Rattle.std.proofs.lemmas.List.{get_or-drop, get_or-take, get_or_past}
use Rattle.std.proofs.lemmas.Nat.{le_bytes_2, le_bytes_4, le_bytes_8, from_le_bytes-to_le_bytes_2}
use Rattle.std.proofs.lemmas.Nat.{from_le_bytes-to_le_bytes_4, from_le_bytes-to_le_bytes_8}
use Rattle.p9_wire.specs.declared.error.WireError.{WireError}
use Rattle.p9_wire.specs.declared.error.WireError.TheVariants.{UnexpectedEof}
use Rattle.p9_wire.specs.Reading.{◌>>=◌, give, bytes_at, fixed_at, IsBytes, Always, Lawful, Found}
use Rattle.p9_wire.specs.Reading.{Decodes}
use Rattle.p9_wire.specs.Steps.{Decodes-after, Decodes-give}

pub IsBytes-drop : (n : ℕ) (bytes : List ℕ) → IsBytes bytes → IsBytes (drop n bytes)
IsBytes-drop n bytes h i = rw get_or-drop (h (n + i))

pub IsBytes-take : (n : ℕ) (bytes : List ℕ) → IsBytes bytes → IsBytes (take n bytes)
IsBytes-take n bytes h i =
    elim (cases_lt i n) [
      | inl lt ↦ rw (get_or-take n bytes i 0 lt) (h i)
      | inr le ↦ rw (get_or_past (take n bytes) i 0 (omega (arith, length-take n bytes)))
          (omega arith)
    ]

pub IsBytes-after : (a b : List ℕ) → IsBytes (a ++ b) → IsBytes b
IsBytes-after a b h = subst IsBytes (drop_at a b (length a) refl)
    (IsBytes-drop (length a) (a ++ b) h)

abbrev found : {A : Type 0} → A → List ℕ → Result (A × List ℕ) WireError
found x xs = Ok (x, xs)

pub found_same : {A : Type 0} (x y : A × List ℕ) → found x.0 x.1 ≡ found y.0 y.1 → x ≡ y
found_same x y e = cc

pub found_parts : {A : Type 0} (x y : A) (xs ys : List ℕ) → found x xs ≡ found y ys → (x ≡ y)
    × (xs ≡ ys)
found_parts {A} x y xs ys e =
    let same : (x, xs) ≡ (y, ys) = cc in
    (ap (λ (p : A × List ℕ). p.0) same, ap (λ (p : A × List ℕ). p.1) same)

-- the value of a step that did not fail
pub bind_ok : {A B : Type 0} (r : Result A WireError) (f : A → Result B WireError) (y : B)
    → (r >>= f) ≡ Ok y → (x : A) × (r ≡ Ok x) × (f x ≡ Ok y)
bind_ok (Ok x) f y e = (x, refl, e)
bind_ok (Err d) f y e = absurd cc

-- a test that did not fail
pub guard_ok : {A : Type 0} (b : Bool) (d : WireError) (x y : A) → cond b (Err d) (Ok x) ≡ Ok y
    → (b ≡ false) × (x ≡ y)
guard_ok true d x y e = absurd cc
guard_ok false d x y e = (refl, cc)

pub bytes_again : (bs ys : List ℕ) (n : ℕ) → length bs ≡ n → bytes_at n (bs ++ ys) ≡ Ok (bs, ys)
bytes_again bs ys n len =
    let long : ltb (length (bs ++ ys)) n ≡ false =
    le-ltb _ _ (omega (arith, length-append bs ys)) in
    rw (long, take_at bs ys n len, drop_at bs ys n len) refl

pub bytes_take : (n : ℕ) (xs bs rest : List ℕ) → bytes_at n xs ≡ Ok (bs, rest) → (xs ≡ bs ++ rest)
    × (length bs ≡ n)
bytes_take n xs bs rest e =
    let g = guard_ok (ltb (length xs) n) UnexpectedEof (take n xs, drop n xs) (bs, rest) e in
    let long : n ≤ length xs = ltb-false _ _ g.0 in
    subst (λ (p : List ℕ × List ℕ). (xs ≡ p.0 ++ p.1) × (length p.0 ≡ n)) g.1
    (sym (take-append-drop n xs), omega (arith, length-take n xs))

pub bytes_short : (n : ℕ) (xs : List ℕ) → length xs < n → bytes_at n xs ≡ Err UnexpectedEof
bytes_short n xs lt = let short : ltb (length xs) n ≡ true = lt-ltb _ _ lt in rw short refl

pub record IsCode (len : ℕ) (from : List ℕ → ℕ) (to : ℕ → List ℕ) (limit : ℕ) : Type 0 where
  pub size : (n : ℕ) → length (to n) ≡ len
  pub back : (bytes : List ℕ) → length bytes ≡ len → IsBytes bytes → to (from bytes) ≡ bytes
  pub once : (n : ℕ) → n < limit → from (to n) ≡ n
  pub below : (bytes : List ℕ) → IsBytes bytes → from bytes < limit

module _ (len : ℕ) (from : List ℕ → ℕ) (to : ℕ → List ℕ) (limit : ℕ)
    (code : IsCode len from to limit) where
  pub fixed_takes : (xs rest : List ℕ) (n : ℕ) → IsBytes xs → fixed_at len from xs ≡ Ok (n, rest)
      → Unit {0} → (xs ≡ to n ++ rest) × (n < limit) × Unit {0}
  fixed_takes xs rest n fits e s =
      let a = bind_ok (bytes_at len xs) (λ x. Ok (from x.0, x.1)) (n, rest) e in
      let t = bytes_take len xs a.0.0 a.0.1 a.1 in
      let small : IsBytes a.0.0 = subst IsBytes (take_at a.0.0 a.0.1 (length a.0.0) refl)
      (IsBytes-take (length a.0.0) (a.0.0 ++ a.0.1) (subst IsBytes t.0 fits)) in
      let spelled : to (from a.0.0) ≡ a.0.0 = code.back a.0.0 t.1 small in
      let whole : xs ≡ to (from a.0.0) ++ a.0.1 = t.0
      ∙ ap (λ (l : List ℕ). l ++ a.0.1) (sym spelled) in
      subst (λ (p : ℕ × List ℕ). (xs ≡ to p.0 ++ p.1) × (p.0 < limit) × Unit {0})
      (found_same (from a.0.0, a.0.1) (n, rest) a.2) (whole, code.below a.0.0 small, tt)

  pub fixed_again : (n : ℕ) (rest : List ℕ) → n < limit → Unit {0}
      → fixed_at len from (to n ++ rest) ≡ Ok (n, rest)
  fixed_again n rest lt u = rw (bytes_again (to n) rest len (code.size n), code.once n lt) refl

  pub fixed_unique : (p q : ℕ) (x y : List ℕ) → p < limit → q < limit → to p ++ x ≡ to q ++ y → p
      ≡ q
  fixed_unique p q x y small small' e = (found_parts p q x y
      (sym (fixed_again p x small tt) ∙ (ap (fixed_at len from) e ∙ fixed_again q y small' tt))).0

  pub fixed_lawful : Lawful (λ (n : ℕ). n < limit) to Always Always (fixed_at len from)
  fixed_lawful = record { takes = fixed_takes; again = fixed_again; unique = fixed_unique }

pub code16 : IsCode 2 (from_le_bytes w16) (to_le_bytes w16) (2 ^ 16)
code16 = record {
  size = λ n. refl;
  back = λ bytes len fits. le_bytes_2 bytes _ len fits refl;
  once = λ n lt. from_le_bytes-to_le_bytes_2 n lt;
  below = λ bytes fits. omega (arith, fits 0, fits 1);
}

pub code32 : IsCode 4 (from_le_bytes w32) (to_le_bytes w32) (2 ^ 32)
code32 = record {
  size = λ n. refl;
  back = λ bytes len fits. le_bytes_4 bytes _ len fits refl;
  once = λ n lt. from_le_bytes-to_le_bytes_4 n lt;
  below = λ bytes fits. omega (arith, fits 0, fits 1, fits 2, fits 3);
}

pub code64 : IsCode 8 (from_le_bytes w64) (to_le_bytes w64) (2 ^ 64)
code64 = record {
  size = λ n. refl;
  back = λ bytes len fits. le_bytes_8 bytes _ len fits refl;
  once = λ n lt. from_le_bytes-to_le_bytes_8 n lt;
  below = λ bytes fits. omega (
    arith,
    fits 0,
    fits 1,
    fits 2,
    fits 3,
    fits 4,
    fits 5,
    fits 6,
    fits
        7,
  );
}

-- one byte
abbrev pub byte_from : List ℕ → ℕ
byte_from bs = get_or bs 0 0

abbrev pub byte_to : ℕ → List ℕ
byte_to n = n ∷ []

one_byte : (bytes : List ℕ) → length bytes ≡ 1 → byte_to (byte_from bytes) ≡ bytes
one_byte [] e = absurd cc
one_byte (b ∷ []) e = refl
one_byte (b ∷ c ∷ bs) e = absurd (omega (arith, e))

pub code8 : IsCode 1 byte_from byte_to (2 ^ 8)
code8 = record {
  size = λ n. refl;
  back = λ bytes len fits. one_byte bytes len;
  once = λ n lt. refl;
  below = λ bytes fits. fits 0;
}

-- ---- what a filled buffer says

pub Found-filled : (a b : Option (List ℕ)) (bs : List ℕ) → Consumes a b bs
    → Found (bytes_at (length bs)) a b bs
Found-filled None b bs h = tt
Found-filled (Some xs) None bs h = absurd h
Found-filled (Some xs) (Some ys) bs h = rw h (bytes_again bs ys (length bs) refl)

pub Decodes-fixed : {V : Type 0} (len : ℕ) (from : List ℕ → ℕ) (bs : List ℕ)
    (a b : Option (List ℕ)) (f0 f1 : ℕ) (x : V) → Decodes (λ _. bs) (bytes_at len) a b f0 f1 (Ok x)
    → Decodes (λ n. n) (fixed_at len from) a b f0 f1 (Ok (from bs))
Decodes-fixed {V} len from bs a b f0 f1 x h =
    Decodes-after (λ _. bs) (λ (n : ℕ). n) (bytes_at len) (λ bs. give (from bs)) a b b f0 f1 f1 x
    (Ok (from bs)) h (Decodes-give (λ (n : ℕ). n) (from bs) b f1)

-- ---- the laws of the numbers

pub law8 : Lawful (λ (n : ℕ). n < 2 ^ 8) byte_to Always Always (fixed_at 1 byte_from)
law8 = fixed_lawful 1 byte_from byte_to (2 ^ 8) code8

pub law16 : Lawful (λ (n : ℕ). n < 2 ^ 16) (to_le_bytes w16) Always Always
    (fixed_at 2 (from_le_bytes w16))
law16 = fixed_lawful 2 (from_le_bytes w16) (to_le_bytes w16) (2 ^ 16) code16

pub law32 : Lawful (λ (n : ℕ). n < 2 ^ 32) (to_le_bytes w32) Always Always
    (fixed_at 4 (from_le_bytes w32))
law32 = fixed_lawful 4 (from_le_bytes w32) (to_le_bytes w32) (2 ^ 32) code32

pub law64 : Lawful (λ (n : ℕ). n < 2 ^ 64) (to_le_bytes w64) Always Always
    (fixed_at 8 (from_le_bytes w64))
law64 = fixed_lawful 8 (from_le_bytes w64) (to_le_bytes w64) (2 ^ 64) code64
