-- Bytes that come in pieces are the bytes that were asked for.
use Rattle.std.proofs.Common.{◌≡◌, ℕ, ◌+◌, ◌<◌, ◌≤◌, Bool, true, false, cond, ltb, List, [], ◌++◌}
use Rattle.std.proofs.Common.{length, Ok, Err, None, Some, refl, ap, subst, ◌∙◌}
use Rattle.std.proofs.Common.{arith}
use Rattle.std.proofs.lemmas.Bool.{ltb-true}
use Rattle.std.proofs.lemmas.List.{length-append}
use Rattle.std.specs.declared.option.Option.{Option}
use Rattle.std.specs.Io.KnownBytes.{Consumes}
use Rattle.std.proofs.KnownBytes.{Consumes-nil, Consumes-trans}
use Rattle.p9_wire.specs.declared.error.WireError.{WireError}
use Rattle.p9_wire.specs.declared.error.WireError.TheVariants.{InvalidInput, InvalidData}
use Rattle.p9_wire.specs.declared.error.WireError.TheVariants.{UnexpectedEof, Read, Write, NoMemory}
use Rattle.p9_wire.specs.Reading.{bytes_at, Found, Refused, Answers, Decodes}
use Rattle.p9_wire.specs.Numbers.{bytes_take, bytes_short, Found-filled}
use Rattle.p9_wire.specs.Steps.{Took-trans}

-- these bytes were taken, with no fault
pub record Came (a b : Option (List ℕ)) (f0 f1 : ℕ) (bytes : List ℕ) : Type 0 where
  pub consumed : Consumes a b bytes
  pub same : f1 ≡ f0

pub Came-nothing : (a : Option (List ℕ)) (f : ℕ) → Came a a f f []
Came-nothing a f = record { consumed = Consumes-nil a; same = refl }

Consumes-found : (n : ℕ) (a b : Option (List ℕ)) (bs : List ℕ) → Found (bytes_at n) a b bs
    → Consumes a b bs
Consumes-found n None b bs h = tt
Consumes-found n (Some xs) None bs h = h
Consumes-found n (Some xs) (Some ys) bs h = (bytes_take n xs bs ys h).0

pub Came-more : {V : Type 0} (v : V) (m : ℕ) (a b c : Option (List ℕ)) (f0 f1 f2 : ℕ)
    (front piece whole : List ℕ) → whole ≡ front ++ piece → Came a b f0 f1 front
    → Decodes (λ (x : V). piece) (bytes_at m) b c f1 f2 (Ok v) → Came a c f0 f2 whole
Came-more v m a b c f0 f1 f2 front piece whole is came h =
    rw is (record {
      consumed = Consumes-trans a b c front piece came.consumed
          (Consumes-found m b c piece h.answer.1);
      same = h.answer.0 ∙ came.same;
    })

pub Came-done : {V : Type 0} (view : V → List ℕ) (v : V) (n : ℕ) (a b : Option (List ℕ))
    (f0 f1 : ℕ) → length (view v) ≡ n → Came a b f0 f1 (view v)
    → Decodes view (bytes_at n) a b f0 f1 (Ok v)
Came-done view v n a b f0 f1 len came = record {
  took = (view v, came.consumed);
  answer = (
    came.same,
    subst (λ (m : ℕ). Found (bytes_at m) a b (view v)) len
        (Found-filled a b (view v) came.consumed),
  );
}

-- too few bytes
cond_err : {A : Type 0} (t : Bool) (e : WireError) (x : A) → cond t (Err UnexpectedEof) (Ok x)
    ≡ Err e → (t ≡ true) × (UnexpectedEof ≡ e)
cond_err true e x h = (refl, cc)
cond_err false e x h = absurd cc

Refused-more : (n m : ℕ) (a b : Option (List ℕ)) (front : List ℕ) (e : WireError)
    → length front + m ≤ n → Consumes a b front → Refused (bytes_at m) b e
    → Refused (bytes_at n) a e
Refused-more n m None b front e le c h = tt
Refused-more n m (Some xs) None front e le c h = absurd c
Refused-more n m (Some xs) (Some ys) front e le c h =
    let t = cond_err (ltb (length ys) m) e _ h in
    let few : length ys < m = ltb-true (length ys) m t.0 in
    let short : length xs < n = omega (arith, few, le, ap length c, length-append front ys) in
    bytes_short n xs short ∙ ap (λ d. Err d) t.1

module _ {V W : Type 0} (view : V → List ℕ) (view' : W → List ℕ) (n m : ℕ)
    (a b c : Option (List ℕ)) (f0 f1 f2 : ℕ) (front : List ℕ) (le : length front + m ≤ n)
    (came : Came a b f0 f1 front) where
  answers_stop : (e : WireError) → Answers view (bytes_at m) b c f1 f2 (Err e)
      → Answers view' (bytes_at n) a c f0 f2 (Err e)
  answers_stop InvalidInput h = (
    h.0 ∙ came.same,
    Refused-more n m a b front InvalidInput le
        came.consumed h.1,
  )
  answers_stop InvalidData h = (
    h.0 ∙ came.same,
    Refused-more n m a b front InvalidData le
        came.consumed h.1,
  )
  answers_stop UnexpectedEof h = (
    h.0 ∙ came.same,
    Refused-more n m a b front UnexpectedEof le
        came.consumed h.1,
  )
  answers_stop Read h = (omega (arith, h.0, came.same), omega (arith, h.1, came.same))
  answers_stop Write h = h
  answers_stop NoMemory h = h ∙ came.same

  pub Came-stops : (e : WireError) → Decodes view (bytes_at m) b c f1 f2 (Err e)
      → Decodes view' (bytes_at n) a c f0 f2 (Err e)
  Came-stops e h = record {
    took = Took-trans a b c (front, came.consumed) h.took;
    answer =
        answers_stop e h.answer;
  }

-- memory was missing for what came
pub Came-memory : {W : Type 0} (view : W → List ℕ) (n : ℕ) (a b : Option (List ℕ)) (f0 f1 : ℕ)
    (bytes : List ℕ) → Came a b f0 f1 bytes → Decodes view (bytes_at n) a b f0 f1 (Err NoMemory)
Came-memory view n a b f0 f1 bytes came =
    record { took = (bytes, came.consumed); answer = came.same }
