-- A frame is read as its size, and then the bytes behind it.
use Rattle.std.proofs.Common.{◌≡◌, ℕ, ◌-◌, ◌≤◌, true, ◌&&◌, List, [], ◌∷◌, ◌++◌, Result, Ok}
use Rattle.std.proofs.Common.{Err, None, Some, refl, sym, ap, subst, ◌∙◌}
use Rattle.std.specs.Prelude.{nat_le, MatchResult, IfErr}
use Rattle.std.specs.declared.option.Option.{Option}
use Rattle.std.specs.Int.{w32, from_le_bytes}
use Rattle.std.proofs.lemmas.Bool.{le-leb}
use Rattle.port_base.specs.Streams.{TookExactly}
use Rattle.p9_wire.specs.declared.error.WireError.{WireError}
use Rattle.p9_wire.specs.declared.error.WireError.TheVariants.{InvalidInput, InvalidData}
use Rattle.p9_wire.specs.declared.error.WireError.TheVariants.{UnexpectedEof, Read, Write, NoMemory}
use Rattle.p9_wire.specs.Reading.{Reads, give, fixed_at, bytes_at, Found, Took, Decodes}
use Rattle.p9_wire.specs.Reading.{EndsShort, TookOfFrame}
use Rattle.p9_wire.specs.Numbers.{bind_ok, bytes_take, found_same}
use Rattle.p9_wire.specs.Texts.{read_if, Decodes-passed}
use Rattle.p9_wire.specs.Steps.{Decodes-stops, Decodes-after, Decodes-give}
use Rattle.p9_wire.specs.Frames.{body_of, body_reading, framed_reading, framed_view}

given : {V P : Type 0} (view : V → P) (v : V) (p : P) (a : Option (List ℕ)) (f : ℕ) → view v ≡ p
    → Decodes view (give p) a a f f (Ok v)
given view v p a f e = subst (λ x. Decodes view (give x) a a f f (Ok v)) e (Decodes-give view v a f)

module _ {V M W : Type 0} (view : V → M) (reading : ℕ → Reads M) (items : W → List ℕ) (n : ℕ)
    (b c : Option (List ℕ)) (f1 f2 : ℕ) where
  -- the bytes failed
  pub body_stops : (e : WireError) → Decodes items (bytes_at n) b c f1 f2 (Err e)
      → Decodes (framed_view view) (body_reading reading n) b c f1 f2 (Err e)
  body_stops e h = Decodes-stops items (framed_view view) (bytes_at n)
      (λ bs. give (body_of reading bs)) b c f1 f2 e h

  -- the bytes are there, and memory sufficed for their message or not
  pub body_ends : (w : W) (res : Result (ℕ × Result V WireError) WireError)
      → Decodes items (bytes_at n) b c f1 f2 (Ok w)
      → MatchResult res (λ f. framed_view view f ≡ body_of reading (items w)) (λ e. e ≡ NoMemory)
      → Decodes (framed_view view) (body_reading reading n) b c f1 f2 res
  body_ends w (Ok f) h e = Decodes-after items (framed_view view) (bytes_at n)
      (λ bs. give (body_of reading bs)) b c c f1 f2 f2 w (Ok f) h
      (given (framed_view view) f (body_of reading (items w)) c f2 e)
  body_ends w (Err d) h e = rw e (record { took = h.took; answer = h.answer.0 })

-- where memory alone was missing the source may be anywhere
pub only_memory : {T : Type 0} (P : T → Type 0) (res : Result T WireError) (new : Option (List ℕ))
    → MatchResult res P (λ e. e ≡ NoMemory) → IfErr res (EndsShort new)
only_memory P (Ok x) new h = tt
only_memory P (Err e) new h = subst (EndsShort new) (sym h) tt

-- the four bytes of a size were taken
pub took_size : (a b : Option (List ℕ)) (size : ℕ)
    → Found (fixed_at 4 (from_le_bytes w32)) a b size → TookExactly a b 4
took_size None b size h = (0 ∷ 0 ∷ 0 ∷ 0 ∷ [], tt, refl)
took_size (Some xs) None size h = absurd h
took_size (Some xs) (Some ys) size h =
    let x = bind_ok (bytes_at 4 xs) (λ x. Ok (from_le_bytes w32 x.0, x.1)) (size, ys) h in
    let t = bytes_take 4 xs x.0.0 x.0.1 x.1 in
    let rest : x.0.1 ≡ ys = ap (λ (z : ℕ × List ℕ). z.1)
    (found_same (from_le_bytes w32 x.0.0, x.0.1) (size, ys) x.2) in
    (x.0.0, t.0 ∙ ap (λ (l : List ℕ). x.0.0 ++ l) rest, t.1)

-- what was taken where the source ends within a frame
pub ended_within : {T : Type 0} (a c : Option (List ℕ)) (res : Result T WireError) → Took a c
    → IfErr res (EndsShort c) → IfErr res (TookOfFrame a c)
ended_within a c (Ok x) took h = tt
ended_within a c (Err InvalidInput) took h = h
ended_within a c (Err InvalidData) took h = absurd h
ended_within a c (Err UnexpectedEof) took h = (took.0, took.1, h)
ended_within a c (Err Read) took h = h
ended_within a c (Err Write) took h = h
ended_within a c (Err NoMemory) took h = h

module _ {V M : Type 0} (view : V → M) (reading : ℕ → Reads M) (limit size : ℕ)
    (a b c : Option (List ℕ)) (f0 f1 f2 : ℕ) (low : 7 ≤ size) (high : size ≤ limit)
    (sized : Decodes (λ (n : ℕ). n) (fixed_at 4 (from_le_bytes w32)) a b f0 f1 (Ok size)) where
  -- the second reading, behind a size that a frame has
  pub after_size : (res : Result (ℕ × Result V WireError) WireError)
      → Decodes (framed_view view) (body_reading reading (size - 4)) b c f1 f2 res
      → Decodes (framed_view view) (framed_reading reading limit) a c f0 f2 res
  after_size res h =
      let test : (nat_le 7 size && nat_le size limit) ≡ true =
      rw (le-leb 7 size low, le-leb size limit high) refl in
      Decodes-after (λ (n : ℕ). n) (framed_view view) (fixed_at 4 (from_le_bytes w32))
      (λ n. read_if (nat_le 7 n && nat_le n limit) InvalidData (body_reading reading (n - 4)))
      a b c f0 f1 f2 size res sized
      (Decodes-passed (framed_view view) (nat_le 7 size && nat_le size limit) InvalidData
      (body_reading reading (size - 4)) b c f1 f2 res test h)
