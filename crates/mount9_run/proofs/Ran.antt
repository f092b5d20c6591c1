-- What a run does, from what its last step does.
use Rattle.std.proofs.Common.{◌≡◌, ℕ, List, ◌++◌, IfSome, Some, None, Result, Ok, Err, refl, sym}
use Rattle.std.proofs.Common.{ap, ◌∙◌, subst}
use Rattle.std.specs.declared.option.Option.{Option}
use Rattle.std.specs.Io.KnownBytes.{Appends, Consumes}
use Rattle.std.proofs.KnownBytes.{Appends-nil}
use Rattle.port_base.specs.Faults.{Faulted}
use Rattle.port_base.specs.Streams.{SentFront}
use Rattle.port_base.specs.declared.sink.SinkFault.{SinkFault}
use Rattle.port_base.specs.declared.sink.SinkFault.TheVariants.{Failed, NoMemory}
use Rattle.mount9_run.specs.Wrote.{WroteBy, at_sink}
use Rattle.mount9_run.specs.Outcome.{Outcome}
use Rattle.mount9_run.specs.Running.{Whole, Front, RanBy, Ran, IsTold, after_text, Tells}
use Rattle.mount9_run.specs.declared.run.Status.{Status}
use Rattle.mount9_run.specs.declared.run.Status.TheVariants.{Served, Stopped, Words, Header, Memory}
use Rattle.mount9_run.specs.declared.run.Status.TheVariants.{Input, Output}

pub always : {P : List ℕ → Type 0} (left : Option (List ℕ)) → ((bytes : List ℕ) → P bytes)
    → IfSome left P
always None h = tt
always (Some bytes) h = h bytes

-- nothing written is a front of every text
nothing : (sent : Option (List ℕ)) (text : List ℕ) → SentFront sent sent text
nothing sent text = (0, Appends-nil sent)

module _ (f : List ℕ → Outcome) (s0 s1 : Option (List ℕ)) (in0 in1 out0 out1 : ℕ) where
  told_as : (left : Option (List ℕ)) (s : Status) → IsTold s → in1 ≡ in0 → out1 ≡ out0
      → Whole f left s0 s1 s → RanBy f left s0 s1 in0 in1 out0 out1 s
  told_as left Served t a b w = (a, b, w)
  told_as left Stopped t a b w = (a, b, w)
  told_as left Words t a b w = (a, b, w)
  told_as left Header t a b w = (a, b, w)
  told_as left Memory t a b w = absurd t
  told_as left Input t a b w = absurd t
  told_as left Output t a b w = absurd t

  whole : (left : Option (List ℕ)) (s : Status) (text : List ℕ)
      → IfSome left (λ bytes. f bytes ≡ (s, text)) → Appends s0 s1 text → Whole f left s0 s1 s
  whole None s text is h = tt
  whole (Some bytes) s text is h = (
    ap (λ (o : Outcome). o.0) is,
    subst (Appends s0 s1)
        (sym (ap (λ (o : Outcome). o.1) is)) h,
  )

  front : (left : Option (List ℕ)) (s : Status) (text : List ℕ)
      → IfSome left (λ bytes. f bytes ≡ (s, text)) → SentFront s0 s1 text → Front f left s0 s1
  front None s text is h = tt
  front (Some bytes) s text is h = subst (SentFront s0 s1) (sym (ap (λ (o : Outcome). o.1) is)) h

  after : (left : Option (List ℕ)) (s : Status) (text : List ℕ) → IsTold s → in1 ≡ in0
      → IfSome left (λ bytes. f bytes ≡ (s, text)) → (r : Result (Unit {0}) SinkFault)
      → WroteBy s0 s1 out0 out1 text r → RanBy f left s0 s1 in0 in1 out0 out1 (after_text s r)
  after left s text t same is (Ok x) h = told_as left s t same h.0 (whole left s text is h.1)
  after left s text t same is (Err Failed) h = (same, h.0, front left s text is h.1)
  after left s text t same is (Err NoMemory) h = (same, h.0, front left s text is h.1)

  -- a text that the outcome has was written
  pub Ran-told : {X : Type 0} {k0 k1 : X} (left : Option (List ℕ)) (s : Status) (text : List ℕ)
      (answer : Status) → IsTold s → in1 ≡ in0 → IfSome left (λ bytes. f bytes ≡ (s, text))
      → Tells (at_sink s0 out0 k0) (at_sink s1 out1 k1) s text answer
      → Ran f left s0 s1 in0 in1 out0 out1 answer
  Ran-told left s text answer t same is h = record {
    answer = subst (RanBy f left s0 s1 in0 in1 out0 out1) (sym h.is)
        (after left s text t same is h.written h.wrote.answer);
  }

-- nothing was written, for want of memory or a failed input
pub Ran-memory : (f : List ℕ → Outcome) (left sent : Option (List ℕ)) (in0 in1 out : ℕ) → in1 ≡ in0
    → Ran f left sent sent in0 in1 out out Memory
Ran-memory f left sent in0 in1 out same = record
    { answer = (same, refl, always left (λ bytes. nothing sent (f bytes).1)) }

pub Ran-input : (f : List ℕ → Outcome) (left sent : Option (List ℕ)) (in0 in1 out : ℕ)
    → Faulted in0 in1 → Ran f left sent sent in0 in1 out out Input
Ran-input f left sent in0 in1 out failed = record
    { answer = (failed, refl, always left (λ bytes. nothing sent (f bytes).1)) }

-- ---- a run after a text that was taken

module _ (f g : List ℕ → Outcome) (text : List ℕ)
    (leads : (rest : List ℕ) → f (text ++ rest) ≡ g rest) where
  move : (P : Outcome → Type 0) (l0 l1 : Option (List ℕ)) → Consumes l0 l1 text
      → IfSome l1 (λ bytes. P (g bytes)) → IfSome l0 (λ bytes. P (f bytes))
  move P None l1 c h = tt
  move P (Some x) None c h = absurd c
  move P (Some x) (Some y) c h = subst P (sym (ap f c ∙ leads y)) h

  module _ (l0 l1 s0 s1 : Option (List ℕ)) (in0 in1 out0 out1 : ℕ) (c : Consumes l0 l1 text) where
    moved : (s : Status) → RanBy g l1 s0 s1 in0 in1 out0 out1 s
        → RanBy f l0 s0 s1 in0 in1 out0 out1 s
    moved Served h = (h.0, h.1, move (λ o. (o.0 ≡ Served) × Appends s0 s1 o.1) l0 l1 c h.2)
    moved Stopped h = (h.0, h.1, move (λ o. (o.0 ≡ Stopped) × Appends s0 s1 o.1) l0 l1 c h.2)
    moved Words h = (h.0, h.1, move (λ o. (o.0 ≡ Words) × Appends s0 s1 o.1) l0 l1 c h.2)
    moved Header h = (h.0, h.1, move (λ o. (o.0 ≡ Header) × Appends s0 s1 o.1) l0 l1 c h.2)
    moved Memory h = (h.0, h.1, move (λ o. SentFront s0 s1 o.1) l0 l1 c h.2)
    moved Input h = (h.0, h.1, move (λ o. SentFront s0 s1 o.1) l0 l1 c h.2)
    moved Output h = (h.0, h.1, move (λ o. SentFront s0 s1 o.1) l0 l1 c h.2)

    -- the input didn't fail before
    pub Ran-later : (n : ℕ) → in0 ≡ n → (s : Status) → Ran g l1 s0 s1 in0 in1 out0 out1 s
        → Ran f l0 s0 s1 n in1 out0 out1 s
    Ran-later n same s h = subst (λ m. Ran f l0 s0 s1 m in1 out0 out1 s) same
        (record { answer = moved s h.answer })

-- the same of equal outcomes
pub Ran-alike : (f g : List ℕ → Outcome) (left s0 s1 : Option (List ℕ)) (in0 in1 out0 out1 : ℕ)
    (s : Status) → ((bytes : List ℕ) → g bytes ≡ f bytes) → Ran g left s0 s1 in0 in1 out0 out1 s
    → Ran f left s0 s1 in0 in1 out0 out1 s
Ran-alike f g left s0 s1 in0 in1 out0 out1 s same h =
    subst (λ (k : List ℕ → Outcome). Ran k left s0 s1 in0 in1 out0 out1 s)
    (λ j. λ bytes. same bytes j) h
