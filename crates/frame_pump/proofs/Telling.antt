-- What a run tells outside, from the answer of its loop.
use Rattle.std.proofs.Common.{◌≡◌, ℕ, Ok, Err, inl, inr, subst, sym}
use Rattle.frame_pump.specs.Sessions.{Session, Stays}
use Rattle.frame_pump.specs.Turns.{Streams, WriteStopped, MemoryStopped, StopsBy, EndsQuietly, Runs}
use Rattle.fuse_wire.specs.Cuts.End.{done}
use Rattle.frame_pump.specs.declared.outcome.BridgeError.{BridgeError}
use Rattle.frame_pump.specs.declared.outcome.BridgeError.TheVariants as cause
use Rattle.frame_pump.proofs.Answering.{Stays-trans}

module _ (s0 s1 : Session) (stands : Type 0) (p0 p1 : Streams) (turns handled : ℕ) where
  write_stays : WriteStopped s0 s1 p0 p1 turns handled → Stays s0 s1
  write_stays w = Stays-trans s0 w.between s1 w.answered.stays w.answers.stays

  memory_stays : MemoryStopped s0 s1 p0 p1 turns handled → Stays s0 s1
  memory_stays m = elim m.after [
    | inl same ↦ subst (Stays s0) (sym same) m.answered.stays
    | inr (next, first, whole, leaves) ↦ Stays-trans s0 m.between s1 m.answered.stays leaves.stays
  ]

  halt_stays : (e : BridgeError) → StopsBy s0 s1 stands p0 p1 turns handled e → Stays s0 s1
  halt_stays cause.Torn h = h.2.answered.stays
  halt_stays cause.BadLength h = h.2.answered.stays
  halt_stays cause.TurnsSpent h = h.2.answered.stays
  halt_stays cause.Read h = h.2.answered.stays
  halt_stays cause.Write h = write_stays h.2
  halt_stays cause.NoMemory h = memory_stays h.1
  halt_stays _ h = absurd h

  pub Runs-complete : (sent : ℕ) → sent ≡ s1.sent
      → EndsQuietly s0 s1 stands p0 p1 turns handled done
      → Runs s0 s1 stands p0 p1 turns (Ok (record { handled = handled; nine_frames = sent }))
  Runs-complete sent same h = record { stays = h.2.answered.stays; outcome = (same, h) }

  pub Runs-stopped : (sent : ℕ) (e : BridgeError) → sent ≡ s1.sent
      → StopsBy s0 s1 stands p0 p1 turns handled e
      → Runs s0 s1 stands p0 p1 turns (Err (record
      { cause = e; handled = handled; nine_frames = sent }))
  Runs-stopped sent e same h = record { stays = halt_stays e h; outcome = (same, h) }
