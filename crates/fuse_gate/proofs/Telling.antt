-- The number of messages that a run tells is what the server was handed.
use Rattle.std.proofs.Common.{◌≡◌, ℕ, ◌+◌, Result, Ok, Err, ⊎_elim, sym, subst, arith}
use Rattle.frame_pump.specs.Sessions.{Session, Counted}
use Rattle.frame_pump.specs.Turns.{Streams, StopsBy}
use Rattle.frame_pump.specs.declared.outcome.Pumped.{Pumped}
use Rattle.frame_pump.specs.declared.outcome.Stopped.{Stopped}
use Rattle.frame_pump.specs.declared.outcome.BridgeError.{BridgeError}
use Rattle.frame_pump.specs.declared.outcome.BridgeError.TheVariants as cause
use Rattle.fid_model.specs.Moments.{Moment}
use Rattle.fuse_gate.specs.Pump.{Opens, Closes, PumpsBy, TellsStopped, TellsMessages}

module _ (n0 n1 : Moment) (s0 s1 : Session) (b : Opens n0 s0) (e : Closes s1 n1) (told : ℕ)
    (is : told ≡ s1.sent) where
  counted : (number : ℕ) → Counted s0.sent number s1.sent → Counted s0.asked number s1.asked
      → Counted n0.asked told n1.asked
  counted number sent asked = omega (arith, is, sent, asked, b.sent, b.asked, e.asked)

  stopped : (p0 p1 : Streams) (turns handled : ℕ) (e : BridgeError)
      → StopsBy s0 s1 (Unit {0}) p0 p1 turns handled e → TellsStopped e n0.asked told n1.asked
  stopped p0 p1 turns handled cause.NoMemory h = tt
  stopped p0 p1 turns handled cause.Read h = counted h.2.answered.number h.2.answered.sent
      h.2.answered.asked
  stopped p0 p1 turns handled cause.Write h =
      let before = h.2.answered in
      let last = h.2.answers in
      counted (before.number + last.number) (omega (arith, before.sent, last.sent))
      (omega (arith, before.asked, last.asked))
  stopped p0 p1 turns handled cause.Torn h = counted h.2.answered.number h.2.answered.sent
      h.2.answered.asked
  stopped p0 p1 turns handled cause.BadLength h =
      counted h.2.answered.number h.2.answered.sent h.2.answered.asked
  stopped p0 p1 turns handled cause.TurnsSpent h =
      counted h.2.answered.number h.2.answered.sent h.2.answered.asked
  stopped p0 p1 turns handled _ h = absurd h

pub TellsMessages-from : (n0 n1 : Moment) (p0 p1 : Streams) (turns : ℕ)
    (result : Result Pumped Stopped) → PumpsBy n0 n1 p0 p1 turns result
    → TellsMessages n0.asked n1.asked result
TellsMessages-from n0 n1 p0 p1 turns (Ok told) (s0, s1, b, e, k) =
    counted n0 n1 s0 s1 b e told.nine_frames k.0 k.1.2.answered.number k.1.2.answered.sent
    k.1.2.answered.asked
TellsMessages-from n0 n1 p0 p1 turns (Err told) h = ⊎_elim
    (λ b. stopped n0 n1 b.0 b.1 b.2 b.3 told.nine_frames b.4.0 p0 p1 turns told.handled told.cause
    b.4.1)
    (λ other. ⊎_elim
    (λ a. subst (λ (c : BridgeError). TellsStopped c n0.asked told.nine_frames n1.asked) (sym a.1)
    (subst (λ n. Counted n0.asked n n1.asked) (sym a.2) a.3.2))
    (λ m. subst (λ (c : BridgeError). TellsStopped c n0.asked told.nine_frames n1.asked) (sym m.0)
    tt)
    other.2)
    h
