-- Frames are spelled and read one way.
use Rattle.std.proofs.Common.{◌≡◌, ℕ, ◌+◌, ◌-◌, ◌<◌, ◌≤◌, ◌^◌, Bool, true, false, ◌&&◌, List, []}
use Rattle.std.proofs.Common.{◌∷◌, ◌++◌, length, take, drop, Result, Ok, Err, refl, sym, ap, ◌∙◌}
use Rattle.std.proofs.Common.{subst, arith, append_assoc}
use Rattle.std.specs.Prelude.{nat_le, slice_index, IsTrue, ◌↔◌}
use Rattle.std.specs.Int.{w16, w32, from_le_bytes, to_le_bytes}
use Rattle.std.proofs.lemmas.Bool.{le-leb, leb-true}
use Rattle.std.proofs.lemmas.List.{length-take, length-drop, append-nil, append_cancel_left}
use Rattle.std.proofs.lemmas.List.{take_at}
use Rattle.std.proofs.lemmas.Nat.{from_le_bytes-to_le_bytes_2}
use Rattle.p9_wire.specs.declared.error.WireError.{WireError}
use Rattle.p9_wire.specs.declared.error.WireError.TheVariants.{InvalidData}
use Rattle.p9_wire.specs.Reading.{Reads, ◌>>=◌, then_read, give, fixed_at, bytes_at, IsBytes}
use Rattle.p9_wire.specs.Reading.{Always, Lawful}
use Rattle.p9_wire.specs.Numbers.{bind_ok, found_same, bytes_take, bytes_again, IsBytes-after}
use Rattle.p9_wire.specs.Numbers.{IsBytes-take, IsBytes-drop, code16, law16, law32}
use Rattle.p9_wire.specs.Texts.{read_if, read_if_ok}
use Rattle.p9_wire.specs.Frames.{frame, filling, body_of, framed_reading, settled, sound_reading}
use Rattle.p9_wire.specs.Frames.{FrameSpells, frame_spelling, IsWhole, whole_spelling}
use Rattle.p9_wire.specs.Frames.{LawfulMessages}

pub length-frame : (kind tag : ℕ) (body : List ℕ) → length (frame kind tag body) ≡ 7 + length body
unfolding frame
length-frame kind tag body = omega arith

-- a frame fits a u32 where its message does with the seven bytes before it
pub fits-frame : (fits : Bool) (S : Type 0) (kind tag : ℕ) (body : List ℕ) → tag < 2 ^ 16
    → IsTrue fits ↔ (S × (7 + length body < 2 ^ 32)) → IsTrue fits
    ↔ (((tag < 2 ^ 16) × (S × (7 + length body < 2 ^ 32)))
    × (length (frame kind tag body) < 2 ^ 32))
fits-frame fits S kind tag body below h = (
  λ t. let both = h.0 t in ((below, both), omega (arith, both.1, length-frame kind tag body)),
  λ p. h.1 p.0.1,
)

-- what stands behind the size
abbrev behind_size : (kind tag : ℕ) → List ℕ → List ℕ
behind_size kind tag body = kind ∷ (to_le_bytes w16 tag ++ body)

filling_ok : {M : Type 0} (res : Result (M × List ℕ) WireError) (m : M) → filling res ≡ Ok m → res
    ≡ Ok (m, [])
filling_ok (Ok (x, [])) m e = let same : x ≡ m = cc in ap (λ y. Ok (y, [])) same
filling_ok (Ok (x, b ∷ bs)) m e = absurd cc
filling_ok (Err d) m e = absurd cc

both_true : (a b : Bool) → (a && b) ≡ true → (a ≡ true) × (b ≡ true)
both_true true true e = (refl, refl)
both_true true false e = absurd cc
both_true false b e = absurd cc

-- the type, the tag and the rest make up the bytes
three_parts : (bs : List ℕ) → 3 ≤ length bs → bs ≡ slice_index bs 0
    ∷ (take 2 (drop 1 bs) ++ drop 3 bs)
three_parts [] le = absurd (omega (arith, le))
three_parts (a ∷ []) le = absurd (omega (arith, le))
three_parts (a ∷ b ∷ []) le = absurd (omega (arith, le))
three_parts (a ∷ b ∷ c ∷ bs) le = refl

body_of_frame : {M : Type 0} (reading : ℕ → Reads M) (kind tag : ℕ) (body : List ℕ) → tag < 2 ^ 16
    → body_of reading (behind_size kind tag body) ≡ (tag, filling (reading kind body))
body_of_frame reading kind tag body lt = λ i.
    (from_le_bytes-to_le_bytes_2 tag lt i, filling (reading kind body))

-- a frame of at most `limit` bytes is read, and its body as it is, whatever follows
pub framed_reading-frame : {M : Type 0} (reading : ℕ → Reads M) (limit kind tag : ℕ)
    (body rest : List ℕ) → tag < 2 ^ 16 → 7 + length body ≤ limit → limit < 2 ^ 32
    → framed_reading reading limit (frame kind tag body ++ rest)
    ≡ Ok ((tag, filling (reading kind body)), rest)
unfolding frame
framed_reading-frame reading limit kind tag body rest lt le below =
    let n = 7 + length body in
    let bs = behind_size kind tag body in
    let whole : (to_le_bytes w32 n ++ bs) ++ rest ≡ to_le_bytes w32 n ++ (bs ++ rest) =
    append_assoc (to_le_bytes w32 n) bs rest in
    let one : fixed_at 4 (from_le_bytes w32) ((to_le_bytes w32 n ++ bs) ++ rest)
    ≡ Ok (n, bs ++ rest) = ap (fixed_at 4 (from_le_bytes w32)) whole
    ∙ law32.again n (bs ++ rest) (omega arith) tt in
    let low : nat_le 7 n ≡ true = le-leb 7 n (omega arith) in
    let high : nat_le n limit ≡ true = le-leb n limit le in
    let test : (nat_le 7 n && nat_le n limit) ≡ true = rw (low, high) refl in
    let len : length bs ≡ n - 4 = omega arith in
    let two : bytes_at (n - 4) (bs ++ rest) ≡ Ok (bs, rest) = bytes_again bs rest (n - 4) len in
    ap (λ (r : Result (ℕ × List ℕ) WireError). r >>= λ x. read_if
    (nat_le 7 x.0 && nat_le x.0 limit) InvalidData
    (then_read (bytes_at (x.0 - 4)) (λ bs. give (body_of reading bs))) x.1) one
    ∙ ap (λ (t : Bool). read_if t InvalidData
    (then_read (bytes_at (n - 4)) (λ bs. give (body_of reading bs))) (bs ++ rest)) test
    ∙ ap (λ (r : Result (List ℕ × List ℕ) WireError). r >>= λ y. give (body_of reading y.0) y.1) two
    ∙ ap (λ p. Ok (p, rest)) (body_of_frame reading kind tag body lt)

module _ {M : Type 0} (k : M → ℕ) (S : M → Type 0) (s : M → List ℕ) (R : M → Type 0)
    (r : ℕ → Reads M) (law : LawfulMessages k S s R r) where
  -- a frame that was sent is read back, whatever follows
  pub frame_again : (limit : ℕ) (f : ℕ × M) (rest : List ℕ) → 7 + length (s f.1) ≤ limit
      → limit < 2 ^ 32 → FrameSpells S s f → R f.1
      → framed_reading r limit (frame_spelling k s f ++ rest) ≡ Ok ((f.0, Ok f.1), rest)
  frame_again limit f rest le below spells readable =
      let body : r (k f.1) (s f.1) ≡ Ok (f.1, []) = ap (r (k f.1)) (sym (append-nil (s f.1)))
      ∙ law.again f.1 [] spells.1.0 readable in
      framed_reading-frame r limit (k f.1) f.0 (s f.1) rest spells.0 le below
      ∙ ap (λ (z : Result (M × List ℕ) WireError). Ok ((f.0, filling z), rest)) body

  -- what is read as a frame with a message is spelled so
  pub frame_takes : (limit : ℕ) (xs rest : List ℕ) (tag : ℕ) (m : M) → IsBytes xs
      → framed_reading r limit xs ≡ Ok ((tag, Ok m), rest) → (xs ≡ frame (k m) tag (s m) ++ rest)
      × (FrameSpells S s (tag, m) × R m)
  unfolding frame
  frame_takes limit xs rest tag m fits e =
      let got : (ℕ × Result M WireError) × List ℕ = ((tag, Ok m), rest) in
      let x = bind_ok (fixed_at 4 (from_le_bytes w32) xs)
      (λ x. read_if (nat_le 7 x.0 && nat_le x.0 limit) InvalidData
      (then_read (bytes_at (x.0 - 4)) (λ bs. give (body_of r bs))) x.1) got e in
      let size = x.0.0 in
      let a = read_if_ok (nat_le 7 size && nat_le size limit) InvalidData
      (then_read (bytes_at (size - 4)) (λ bs. give (body_of r bs))) x.0.1 got x.2 in
      let y = bind_ok (bytes_at (size - 4) x.0.1) (λ y. Ok (body_of r y.0, y.1)) got a.1 in
      let bs = y.0.0 in
      let low : 7 ≤ size = leb-true 7 size (both_true (nat_le 7 size) (nat_le size limit) a.0).0 in
      let t = law32.takes xs x.0.1 size fits x.1 tt in
      let u = bytes_take (size - 4) x.0.1 bs y.0.1 y.1 in
      let after : IsBytes x.0.1 = IsBytes-after (to_le_bytes w32 size) x.0.1
      (subst IsBytes t.0 fits) in
      let small : IsBytes bs = subst IsBytes (take_at bs y.0.1 (length bs) refl)
      (IsBytes-take (length bs) (bs ++ y.0.1) (subst IsBytes u.0 after)) in
      let kind = slice_index bs 0 in
      let tag_bytes = take 2 (drop 1 bs) in
      let body = drop 3 bs in
      let parts : bs ≡ kind ∷ (tag_bytes ++ body) = three_parts bs (omega (arith, u.1)) in
      let same : (body_of r bs, y.0.1) ≡ got = found_same (body_of r bs, y.0.1) got y.2 in
      let tag_is : from_le_bytes w16 tag_bytes ≡ tag =
      ap (λ (z : (ℕ × Result M WireError) × List ℕ). z.0.0) same in
      let filled : filling (r kind body) ≡ Ok m =
      ap (λ (z : (ℕ × Result M WireError) × List ℕ). z.0.1) same in
      let rest_is : y.0.1 ≡ rest = ap (λ (z : (ℕ × Result M WireError) × List ℕ). z.1) same in
      let v = law.takes kind body [] m (IsBytes-drop 3 bs small)
      (filling_ok (r kind body) m filled) in
      let tag_small : IsBytes tag_bytes = IsBytes-take 2 (drop 1 bs) (IsBytes-drop 1 bs small) in
      let tag_len : length tag_bytes ≡ 2 = omega
      (arith, u.1, length-take 2 (drop 1 bs), length-drop 1 bs) in
      let tag_back : to_le_bytes w16 tag ≡ tag_bytes = ap (to_le_bytes w16) (sym tag_is)
      ∙ code16.back tag_bytes tag_len tag_small in
      let body_is : body ≡ s m = v.1.0 ∙ append-nil (s m) in
      let size_is : size ≡ 7 + length (s m) =
      omega (arith, u.1, length-drop 3 bs, ap length body_is) in
      let behind : bs ≡ k m ∷ (to_le_bytes w16 tag ++ s m) = parts
      ∙ ap (λ (z : ℕ). z ∷ (tag_bytes ++ body)) (sym v.0)
      ∙ ap (λ (z : List ℕ). k m ∷ (z ++ body)) (sym tag_back)
      ∙ ap (λ (z : List ℕ). k m ∷ (to_le_bytes w16 tag ++ z)) body_is in
      let whole : xs ≡ (to_le_bytes w32 (7 + length (s m)) ++ (k m ∷ (to_le_bytes w16 tag ++ s m)))
      ++ rest = t.0 ∙ ap (λ (n : ℕ). to_le_bytes w32 n ++ x.0.1) size_is
      ∙ ap (λ (z : List ℕ). to_le_bytes w32 (7 + length (s m)) ++ z)
      (u.0 ∙ ap (λ (z : List ℕ). z ++ y.0.1) behind
      ∙ ap (λ (z : List ℕ). (k m ∷ (to_le_bytes w16 tag ++ s m)) ++ z) rest_is)
      ∙ sym (append_assoc (to_le_bytes w32 (7 + length (s m)))
      (k m ∷ (to_le_bytes w16 tag ++ s m)) rest) in
      let tag_below : tag < 2 ^ 16 = subst (λ (n : ℕ). n < 2 ^ 16) tag_is
      (code16.below tag_bytes tag_small) in
      (whole, ((tag_below, (v.1.1, omega (arith, size_is, t.1))), v.1.2))

  -- no frame begins another
  pub frame_unique : (f g : ℕ × M) (x y : List ℕ) → FrameSpells S s f → FrameSpells S s g
      → frame_spelling k s f ++ x ≡ frame_spelling k s g ++ y → f ≡ g
  unfolding frame
  frame_unique f g x y a b e =
      let n = 7 + length (s f.1) in
      let m = 7 + length (s g.1) in
      let bs = behind_size (k f.1) f.0 (s f.1) in
      let cs = behind_size (k g.1) g.0 (s g.1) in
      let e' : to_le_bytes w32 n ++ (bs ++ x) ≡ to_le_bytes w32 m ++ (cs ++ y) =
      sym (append_assoc (to_le_bytes w32 n) bs x) ∙ e
      ∙ append_assoc (to_le_bytes w32 m) cs y in
      let size : n ≡ m = law32.unique n m (bs ++ x) (cs ++ y) a.1.1 b.1.1 e' in
      let after : bs ++ x ≡ cs ++ y = append_cancel_left (to_le_bytes w32 n) (bs ++ x) (cs ++ y)
      (e' ∙ ap (λ z. to_le_bytes w32 z ++ (cs ++ y)) (sym size)) in
      let kinds : k f.1 ≡ k g.1 = ap (λ (z : List ℕ). slice_index z 0) after in
      let tags : to_le_bytes w16 f.0 ++ (s f.1 ++ x) ≡ to_le_bytes w16 g.0 ++ (s g.1 ++ y) =
      ap (drop 1) after in
      let tag : f.0 ≡ g.0 = law16.unique f.0 g.0 (s f.1 ++ x) (s g.1 ++ y) a.0 b.0 tags in
      let bodies : s f.1 ++ x ≡ s g.1 ++ y = ap (drop 3) after in
      let message : f.1 ≡ g.1 = law.unique f.1 g.1 x y a.1.0 b.1.0 kinds bodies in
      λ t. (tag t, message t)

  -- ---- frames whose body may be malformed

  marked_takes : (xs rest : List ℕ) (f : ℕ × Result M WireError) → IsBytes xs
      → framed_reading r (2 ^ 32 - 1) xs ≡ Ok (f, rest) → IsWhole Always f
      → (xs ≡ whole_spelling (frame_spelling k s) f ++ rest) × IsWhole (FrameSpells S s) f
      × IsWhole (λ g. R g.1) f
  marked_takes xs rest (tag, Ok m) fits e sound = let t =
      frame_takes (2 ^ 32 - 1) xs rest tag m fits e in (t.0, t.1.0, t.1.1)
  marked_takes xs rest (tag, Err d) fits e sound = absurd sound

  marked_again : (f : ℕ × Result M WireError) (rest : List ℕ) → IsWhole (FrameSpells S s) f
      → IsWhole (λ g. R g.1) f → framed_reading r (2 ^ 32 - 1)
      (whole_spelling (frame_spelling k s) f ++ rest) ≡ Ok (f, rest)
  marked_again (tag, Ok m) rest a b = frame_again (2 ^ 32 - 1) (tag, m) rest (omega (arith, a.1.1))
      (omega arith) a b
  marked_again (tag, Err d) rest a b = absurd a

  marked_unique : (f g : ℕ × Result M WireError) (x y : List ℕ) → IsWhole (FrameSpells S s) f
      → IsWhole (FrameSpells S s) g → whole_spelling (frame_spelling k s) f ++ x
      ≡ whole_spelling (frame_spelling k s) g ++ y → f ≡ g
  marked_unique (tag, Ok m) (tag', Ok n) x y a b e =
      ap (λ (f : ℕ × M). (f.0, Ok f.1)) (frame_unique (tag, m) (tag', n) x y a b e)
  marked_unique (tag, Ok m) (tag', Err d) x y a b e = absurd b
  marked_unique (tag, Err d) g x y a b e = absurd a

  pub marked_lawful : Lawful (IsWhole (FrameSpells S s)) (whole_spelling (frame_spelling k s))
      (IsWhole Always) (IsWhole (λ f. R f.1)) (framed_reading r (2 ^ 32 - 1))
  marked_lawful = record { takes = marked_takes; again = marked_again; unique = marked_unique }

  -- ---- frames whose body is well formed

  settled_ok : (f : ℕ × Result M WireError) (rest : List ℕ) (p : ℕ × M) (ys : List ℕ)
      → settled f rest ≡ Ok (p, ys) → (f ≡ (p.0, Ok p.1)) × (rest ≡ ys)
  settled_ok (tag, Ok m) rest p ys e =
      let same : ((tag, m), rest) ≡ (p, ys) = found_same ((tag, m), rest) (p, ys) e in (
        ap (λ (z : (ℕ × M) × List ℕ). (z.0.0, Ok z.0.1)) same,
        ap
            (λ (z : (ℕ × M) × List ℕ). z.1) same,
      )
  settled_ok (tag, Err d) rest p ys e = absurd cc

  sound_takes : (xs rest : List ℕ) (f : ℕ × M) → IsBytes xs → sound_reading r (2 ^ 32 - 1) xs
      ≡ Ok (f, rest) → Unit {0} → (xs ≡ frame_spelling k s f ++ rest) × FrameSpells S s f × R f.1
  sound_takes xs rest f fits e sound =
      let x = bind_ok (framed_reading r (2 ^ 32 - 1) xs) (λ x. settled x.0 x.1) (f, rest) e in
      let t = settled_ok x.0.0 x.0.1 f rest x.2 in
      let read : framed_reading r (2 ^ 32 - 1) xs ≡ Ok ((f.0, Ok f.1), rest) = x.1
      ∙ (λ i. Ok (t.0 i, t.1 i)) in
      let u = frame_takes (2 ^ 32 - 1) xs rest f.0 f.1 fits read in
      (u.0, u.1.0, u.1.1)

  sound_again : (f : ℕ × M) (rest : List ℕ) → FrameSpells S s f → R f.1
      → sound_reading r (2 ^ 32 - 1) (frame_spelling k s f ++ rest) ≡ Ok (f, rest)
  sound_again f rest a b = ap (λ (z : Result ((ℕ × Result M WireError) × List ℕ) WireError). z >>=
      λ x. settled x.0 x.1) (frame_again (2 ^ 32 - 1) f rest (omega (arith, a.1.1))
      (omega arith) a b)

  pub sound_lawful : Lawful (FrameSpells S s) (frame_spelling k s) Always (λ f. R f.1)
      (sound_reading r (2 ^ 32 - 1))
  sound_lawful = record { takes = sound_takes; again = sound_again; unique = frame_unique }
