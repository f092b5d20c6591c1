-- What a run does, by its answer: the outcome where it is told, and a front of its text elsewhere.
use Rattle.std.specs.Prelude.{◌≡◌, ℕ, List, IfSome, Result, Ok, Err}
use Rattle.std.specs.declared.option.Option.{Option}
use Rattle.std.specs.Io.KnownBytes.{Appends}
use Rattle.port_base.specs.Faults.{Faulted}
use Rattle.port_base.specs.Streams.{SentFront}
use Rattle.port_base.specs.declared.sink.SinkFault.{SinkFault}
use Rattle.port_base.specs.declared.sink.SinkFault.TheVariants.{Failed, NoMemory}
use Rattle.mount9_run.specs.Wrote.{Shown, Wrote}
use Rattle.mount9_run.specs.Outcome.{Outcome}
use Rattle.mount9_run.specs.declared.run.Status.{Status}
use Rattle.mount9_run.specs.declared.run.Status.TheVariants.{Served, Stopped, Words, Header}
use Rattle.mount9_run.specs.declared.run.Status.TheVariants.{Memory, Input, Output}

-- the answer and the text are those of the outcome
abbrev pub Whole : (List ℕ → Outcome) → Option (List ℕ) → Option (List ℕ) → Option (List ℕ)
    → Status → Type 0
Whole f left sent0 sent1 s =
    IfSome left (λ bytes. ((f bytes).0 ≡ s) × Appends sent0 sent1 (f bytes).1)

-- a front of the outcome's text was written
abbrev pub Front : (List ℕ → Outcome) → Option (List ℕ) → Option (List ℕ) → Option (List ℕ) → Type 0
Front f left sent0 sent1 = IfSome left (λ bytes. SentFront sent0 sent1 (f bytes).1)

-- each answer with its cause
abbrev pub RanBy : (List ℕ → Outcome) → Option (List ℕ) → Option (List ℕ) → Option (List ℕ) → ℕ → ℕ
    → ℕ → ℕ → Status → Type 0
RanBy f left sent0 sent1 in0 in1 out0 out1 Served =
    (in1 ≡ in0) × (out1 ≡ out0) × Whole f left sent0 sent1 Served
RanBy f left sent0 sent1 in0 in1 out0 out1 Stopped =
    (in1 ≡ in0) × (out1 ≡ out0) × Whole f left sent0 sent1 Stopped
RanBy f left sent0 sent1 in0 in1 out0 out1 Words =
    (in1 ≡ in0) × (out1 ≡ out0) × Whole f left sent0 sent1 Words
RanBy f left sent0 sent1 in0 in1 out0 out1 Header =
    (in1 ≡ in0) × (out1 ≡ out0) × Whole f left sent0 sent1 Header
RanBy f left sent0 sent1 in0 in1 out0 out1 Memory =
    (in1 ≡ in0) × (out1 ≡ out0) × Front f left sent0 sent1
RanBy f left sent0 sent1 in0 in1 out0 out1 Input = Faulted in0 in1 × (out1 ≡ out0)
    × Front f left sent0 sent1
RanBy f left sent0 sent1 in0 in1 out0 out1 Output = (in1 ≡ in0) × Faulted out0 out1
    × Front f left sent0 sent1

pub record Ran (f : List ℕ → Outcome) (left sent0 sent1 : Option (List ℕ)) (in0 in1 out0 out1 : ℕ)
    (s : Status) : Type 0 where
  pub answer : RanBy f left sent0 sent1 in0 in1 out0 out1 s

-- an answer that goes with a whole text
abbrev pub IsTold : Status → Type 0
IsTold Served = Unit {0}
IsTold Stopped = Unit {0}
IsTold Words = Unit {0}
IsTold Header = Unit {0}
IsTold Memory = ⊥
IsTold Input = ⊥
IsTold Output = ⊥

-- the answer after the text that goes with it
abbrev pub after_text : Status → Result (Unit {0}) SinkFault → Status
after_text s (Ok x) = s
after_text s (Err Failed) = Output
after_text s (Err NoMemory) = Memory

-- a text was written, and the answer is so
pub record Tells {X : Type 0} (old new : Shown X) (s : Status) (text : List ℕ)
    (answer : Status) : Type 0 where
  pub written : Result (Unit {0}) SinkFault
  pub is : answer ≡ after_text s written
  pub wrote : Wrote old new text written
