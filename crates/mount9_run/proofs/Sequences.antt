-- Texts written one after another.
use Rattle.std.proofs.Common.{◌≡◌, ℕ, ◌+◌, List, [], ◌++◌, length, take, Result, Ok, Err, refl, sym}
use Rattle.std.proofs.Common.{ap, min, ◌∙◌, subst, arith, append_assoc, append-nil}
use Rattle.std.specs.declared.option.Option.{Option}
use Rattle.std.specs.Io.KnownBytes.{Appends}
use Rattle.std.proofs.KnownBytes.{Appends-trans, Appends-nil}
use Rattle.std.proofs.Math.Seq.{take-append-add, take-append_seam}
use Rattle.std.proofs.lemmas.List.{take-append-le, take_min}
use Rattle.port_base.specs.Faults.{Faulted}
use Rattle.port_base.specs.Streams.{SentFront}
use Rattle.port_base.specs.declared.sink.SinkFault.{SinkFault}
use Rattle.port_base.specs.declared.sink.SinkFault.TheVariants.{Failed, NoMemory}
use Rattle.mount9_run.specs.Wrote.{Shown, Wrote, WroteBy}

-- a front of the first text is a front of both
take_first : (n : ℕ) (p q : List ℕ) → (m : ℕ) × (take m (p ++ q) ≡ take n p)
take_first n p q = (
  min n (length p),
  take-append-le (min n (length p)) p q (omega arith)
      ∙ take_min n p,
)

-- a front of the second text, after the first
take_second : (n : ℕ) (p q : List ℕ) → take (length p + n) (p ++ q) ≡ p ++ take n q
take_second n p q = take-append-add p q n

front_first : (a b : Option (List ℕ)) (p q : List ℕ) → SentFront a b p → SentFront a b (p ++ q)
front_first a b p q (n, h) = let m = take_first n p q in (m.0, subst (Appends a b) (sym m.1) h)

front_second : (a b c : Option (List ℕ)) (p q : List ℕ) → Appends a b p → SentFront b c q
    → SentFront a c (p ++ q)
front_second a b c p q h (n, k) = (
  length p + n,
  subst (Appends a c) (sym (take_second n p q))
      (Appends-trans a b c p (take n q) h k),
)

then_by : (a b c : Option (List ℕ)) (f0 f1 f2 : ℕ) (p q : List ℕ) (r : Result (Unit {0}) SinkFault)
    → f1 ≡ f0 → Appends a b p → WroteBy b c f1 f2 q r → WroteBy a c f0 f2 (p ++ q) r
then_by a b c f0 f1 f2 p q (Ok x) same sent h = (h.0 ∙ same, Appends-trans a b c p q sent h.1)
then_by a b c f0 f1 f2 p q (Err Failed) same sent h =
    (subst (λ n. Faulted n f2) same h.0, front_second a b c p q sent h.1)
then_by a b c f0 f1 f2 p q (Err NoMemory) same sent h =
    (h.0 ∙ same, front_second a b c p q sent h.1)

-- a text after one that was sent
pub Wrote-then : {X : Type 0} {a b c : Shown X} {p q : List ℕ} {x : Unit {0}}
    {r : Result (Unit {0}) SinkFault} → Wrote a b p (Ok x) → Wrote b c q r → Wrote a c (p ++ q) r
Wrote-then h k = record {
  answer = then_by _ _ _ _ _ _ _ _ _ h.answer.0 h.answer.1 k.answer;
  kept =
      k.kept ∙ h.kept;
}

first_by : (a b : Option (List ℕ)) (f0 f1 : ℕ) (p q : List ℕ) (e : SinkFault)
    → WroteBy a b f0 f1 p (Err e) → WroteBy a b f0 f1 (p ++ q) (Err e)
first_by a b f0 f1 p q Failed h = (h.0, front_first a b p q h.1)
first_by a b f0 f1 p q NoMemory h = (h.0, front_first a b p q h.1)

-- a text that was not sent in whole, and what would follow
pub Wrote-stopped : {X : Type 0} {a b : Shown X} {p : List ℕ} {e : SinkFault} (q : List ℕ)
    → Wrote a b p (Err e) → Wrote a b (p ++ q) (Err e)
Wrote-stopped q h = record { answer = first_by _ _ _ _ _ q _ h.answer; kept = h.kept }

-- the rest is still to be written
pub record Writing {X : Type 0} (old new : Shown X) (all rest : List ℕ) : Type 0 where
  pub done : List ℕ
  pub whole : all ≡ done ++ rest
  pub wrote : Wrote old new done (Ok tt)

pub Writing-more : {X : Type 0} {a b c : Shown X} {all p rest : List ℕ}
    → Writing a b all (p ++ rest) → Wrote b c p (Ok tt) → Writing a c all rest
Writing-more {p = p} {rest = rest} h k = record {
  done = h.done ++ p;
  whole = h.whole ∙ sym (append_assoc h.done p rest);
  wrote =
      Wrote-then h.wrote k;
}

pub Writing-stop : {X : Type 0} {a b c : Shown X} {all p : List ℕ} (rest : List ℕ)
    → Writing a b all (p ++ rest) → (e : SinkFault) → Wrote b c p (Err e) → Wrote a c all (Err e)
Writing-stop {a = a} {c = c} rest h e k = subst (λ (t : List ℕ). Wrote a c t (Err e)) (sym h.whole)
    (Wrote-then h.wrote (Wrote-stopped rest k))

pub Writing-memory : {X : Type 0} {a b : Shown X} {all rest : List ℕ} → Writing a b all rest
    → Wrote a b all (Err NoMemory)
Writing-memory {a = a} {b = b} {rest = rest} h = record {
  answer = (
    h.wrote.answer.0,
    (
      length h.done,
      subst (Appends a.sent b.sent)
          (sym (ap (take (length h.done)) h.whole ∙ take-append_seam h.done rest)) h.wrote.answer.1,
    ),
  );
  kept = h.wrote.kept;
}

pub Writing-end : {X : Type 0} {a b : Shown X} {all : List ℕ} → Writing a b all []
    → Wrote a b all (Ok tt)
Writing-end {a = a} {b = b} h = subst (λ (t : List ℕ). Wrote a b t (Ok tt))
    (sym (h.whole ∙ append-nil h.done)) h.wrote

pub Writing-start : {X : Type 0} (a : Shown X) (all : List ℕ) → Writing a a all all
Writing-start a all = record {
  done = [];
  whole = refl;
  wrote =
      record { answer = (refl, Appends-nil a.sent); kept = refl };
}

pub Writing-at : {X : Type 0} {a b : Shown X} {all rest more : List ℕ} → rest ≡ more
    → Writing a b all rest → Writing a b all more
Writing-at {a = a} {b = b} {all = all} e h = subst (Writing a b all) e h

pub Wrote-at : {X : Type 0} {a b : Shown X} {p q : List ℕ} {r : Result (Unit {0}) SinkFault} → p ≡ q
    → Wrote a b p r → Wrote a b q r
Wrote-at {a = a} {b = b} {r = r} e h = subst (λ (t : List ℕ). Wrote a b t r) e h
