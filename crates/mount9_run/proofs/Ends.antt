-- Runs that were served, and those that weren't.
use Rattle.std.proofs.Common.{◌≡◌, ◌≢◌, ℕ, List, Result, Ok, Err, refl, sym, ap, ◌∙◌, subst}
use Rattle.std.specs.Prelude.{IsOk}
use Rattle.port_base.specs.declared.sink.SinkFault.{SinkFault}
use Rattle.port_base.specs.declared.sink.SinkFault.TheVariants.{Failed, NoMemory}
use Rattle.frame_pump.specs.declared.outcome.Pumped.{Pumped}
use Rattle.frame_pump.specs.declared.outcome.Stopped.{Stopped as StoppedRun}
use Rattle.frame_pump.specs.declared.outcome.BridgeError.{BridgeError}
use Rattle.frame_pump.specs.declared.outcome.BridgeError.TheVariants as error
use Rattle.mount9_run.specs.Serving.{ending_of, stopped_by}
use Rattle.mount9_run.specs.declared.run.Ending.{Ending}
use Rattle.mount9_run.specs.Wrote.{Shown}
use Rattle.mount9_run.specs.Running.{IsTold, Tells, after_text}
use Rattle.mount9_run.specs.declared.run.Status.{Status}
use Rattle.mount9_run.specs.declared.run.Status.TheVariants.{Served, Stopped, Memory, Input, Output}

-- after another text no run is served
other : (s : Status) → s ≢ Served → (r : Result (Unit {0}) SinkFault) → after_text s r ≢ Served
other s apart (Ok x) is = apart is
other s apart (Err Failed) is = let clash : Output ≡ Served = is in absurd cc
other s apart (Err NoMemory) is = let clash : Memory ≡ Served = is in absurd cc

pub not_served : {X : Type 0} {a b : Shown X} (s : Status) {text : List ℕ} {answer : Status}
    → s ≢ Served → Tells a b s text answer → answer ≢ Served
not_served s apart h is = other s apart h.written (sym h.is ∙ is)

-- a text that was told whole was told by its status
pub served_text : {X : Type 0} {a b : Shown X} (s : Status) {text : List ℕ} {answer : Status}
    → Tells a b s text answer → answer ≡ Served → s ≡ Served
served_text s h is = by_written h.written (sym h.is ∙ is) where
  by_written : (r : Result (Unit {0}) SinkFault) → after_text s r ≡ Served → s ≡ Served
  by_written (Ok x) e = e
  by_written (Err Failed) e = let clash : Output ≡ Served = e in absurd cc
  by_written (Err NoMemory) e = let clash : Memory ≡ Served = e in absurd cc

-- a share whose ending is told as served ended well
pub served_ending : (r : Result Pumped StoppedRun) (e : Ending) → ending_of r ≡ Ok e
    → e.status ≡ Served → IsOk r
served_ending (Ok r) e is served = refl
served_ending (Err r) e is served = absurd (stopped_apart r.handled r.nine_frames r.cause e is
    served) where
      by_status : (x e : Ending) → ◌≡◌ {A = Result Ending Status} (Ok x) (Ok e) → x.status ≡ Stopped
          → e.status ≡ Served → ⊥
      by_status x e is stopped served =
          let same : x ≡ e = cc in
          let clash : Stopped ≡ Served = sym stopped ∙ ap (λ (y : Ending). y.status) same
          ∙ served in cc

      stopped_apart : (handled nine : ℕ) (cause : BridgeError) (e : Ending)
          → stopped_by handled nine cause ≡ Ok e → e.status ≡ Served → ⊥
      stopped_apart handled nine error.Torn e is served = by_status _ e is refl served
      stopped_apart handled nine error.BadLength e is served = by_status _ e is refl served
      stopped_apart handled nine error.TurnsSpent e is served = by_status _ e is refl served
      stopped_apart handled nine error.MsizeTooSmall e is served = by_status _ e is refl served
      stopped_apart handled nine (error.Mount errno) e is served = by_status _ e is refl served
      stopped_apart handled nine (error.Attach errno) e is served = by_status _ e is refl served
      stopped_apart handled nine error.NoMemory e is served = absurd cc
      stopped_apart handled nine error.Read e is served = absurd cc
      stopped_apart handled nine error.Write e is served = absurd cc
      stopped_apart handled nine error.Unmount e is served = absurd cc

-- a share that isn't reported wasn't served
pub unserved : (r : Result Pumped StoppedRun) (s : Status) → ending_of r ≡ Err s → s ≢ Served
unserved (Ok r) s is served = absurd cc
unserved (Err r) s is served = by_cause r.handled r.nine_frames r.cause s is served where
  apart : (x s : Status) → ◌≡◌ {A = Result Ending Status} (Err x) (Err s) → x ≢ Served → s ≡ Served
      → ⊥
  apart x s is other served = let same : x ≡ s = cc in other (same ∙ served)

  by_cause : (handled nine : ℕ) (cause : BridgeError) (s : Status)
      → stopped_by handled nine cause ≡ Err s → s ≡ Served → ⊥
  by_cause handled nine error.NoMemory s is served = apart Memory s is (λ e. absurd cc) served
  by_cause handled nine error.Read s is served = apart Input s is (λ e. absurd cc) served
  by_cause handled nine error.Write s is served = apart Output s is (λ e. absurd cc) served
  by_cause handled nine error.Unmount s is served = apart Output s is (λ e. absurd cc) served
  by_cause handled nine error.Torn s is served = absurd cc
  by_cause handled nine error.BadLength s is served = absurd cc
  by_cause handled nine error.TurnsSpent s is served = absurd cc
  by_cause handled nine error.MsizeTooSmall s is served = absurd cc
  by_cause handled nine (error.Mount errno) s is served = absurd cc
  by_cause handled nine (error.Attach errno) s is served = absurd cc

-- nor is a text told
pub untold : (r : Result Pumped StoppedRun) (s : Status) → ending_of r ≡ Err s → IsTold s → ⊥
untold (Ok r) s is told = absurd cc
untold (Err r) s is told = by_cause r.handled r.nine_frames r.cause s is told where
  apart : (x s : Status) → ◌≡◌ {A = Result Ending Status} (Err x) (Err s) → (IsTold x → ⊥)
      → IsTold s → ⊥
  apart x s is none told = let same : x ≡ s = cc in none (subst IsTold (sym same) told)

  by_cause : (handled nine : ℕ) (cause : BridgeError) (s : Status)
      → stopped_by handled nine cause ≡ Err s → IsTold s → ⊥
  by_cause handled nine error.NoMemory s is told = apart Memory s is (λ none. none) told
  by_cause handled nine error.Read s is told = apart Input s is (λ none. none) told
  by_cause handled nine error.Write s is told = apart Output s is (λ none. none) told
  by_cause handled nine error.Unmount s is told = apart Output s is (λ none. none) told
  by_cause handled nine error.Torn s is told = absurd cc
  by_cause handled nine error.BadLength s is told = absurd cc
  by_cause handled nine error.TurnsSpent s is told = absurd cc
  by_cause handled nine error.MsizeTooSmall s is told = absurd cc
  by_cause handled nine (error.Mount errno) s is told = absurd cc
  by_cause handled nine (error.Attach errno) s is told = absurd cc
