-- A whole run, from the attach, the frames, and the fids taken away.
use Rattle.std.proofs.Common.{◌≡◌, ℕ, ◌-◌, min, Result, Ok, Err, IsTrue, inl, sym, ap, ◌∙◌, subst}
use Rattle.std.proofs.Common.{arith}
use Rattle.fid_model.specs.Fids.{ServerState, cleared}
use Rattle.p9_wire.specs.declared.protocol.TheConstants.{RREAD_HEADER_SIZE}
use Rattle.fid_model.specs.Moments.{Moment, Keeps}
use Rattle.frame_pump.specs.Sessions.{Session}
use Rattle.frame_pump.specs.Turns.{Streams, StopsBy, Runs}
use Rattle.frame_pump.specs.declared.outcome.Pumped.{Pumped}
use Rattle.frame_pump.specs.declared.outcome.Stopped.{Stopped}
use Rattle.frame_pump.specs.declared.outcome.BridgeError.{BridgeError}
use Rattle.frame_pump.specs.declared.outcome.BridgeError.TheVariants as cause
use Rattle.fuse_gate.specs.Attaching.{AttachedBy}
use Rattle.fuse_gate.specs.Pump.{session_of, Opens, Closes, PumpsBy, Pumps}
use Rattle.fuse_gate.specs.declared.gate.TheConstants.{GREATEST_MSIZE}
use Rattle.fuse_gate.specs.declared.gate.Gate.{Gate}
use Rattle.fuse_gate.proofs.Attachings.{keep_none}

module _ (n0 nm nr n1 : Moment) (g gr : Gate) where
  opens : AttachedBy n0 nm (Ok g) → Keeps n0 nm → Opens n0 (session_of g nm)
  opens a k =
      let b = a.0 in
      record {
        root = b.root;
        limit = b.limit;
        found = b.found;
        state = b.state;
        settings =
            k.fixed;
        piece = ap (λ n. min n GREATEST_MSIZE - RREAD_HEADER_SIZE) k.sized;
        rises =
            k.rises;
        steady = k.steady;
        steadily = k.steadily;
        sent = b.frames;
        asked = a.1;
      }

  closes : n1.state ≡ cleared nr.state → n1.faults ≡ nr.faults → n1.asked ≡ nr.asked
      → n1.steady ≡ nr.steady → Closes (session_of gr nr) n1
  closes state faults asked steady = record {
    fids = ap (λ (s : ServerState). s.fids) state;
    tree = ap (λ (s : ServerState). s.tree) state ∙ keep_none nr.state.tree;
    settings = ap (λ (s : ServerState). s.settings) state;
    faults = faults;
    steady = steady;
    asked = asked;
  }

-- what stands for the session at its end is not told further
unstood : (s0 s1 : Session) (stands : Type 0) (p0 p1 : Streams) (turns handled : ℕ)
    (e : BridgeError) → StopsBy s0 s1 stands p0 p1 turns handled e
    → StopsBy s0 s1 (Unit {0}) p0 p1 turns handled e
unstood s0 s1 stands p0 p1 turns handled cause.Torn h = (h.0, tt, h.2)
unstood s0 s1 stands p0 p1 turns handled cause.BadLength h = (h.0, tt, h.2)
unstood s0 s1 stands p0 p1 turns handled cause.TurnsSpent h = (h.0, tt, h.2)
unstood s0 s1 stands p0 p1 turns handled cause.Read h = (h.0, tt, h.2)
unstood s0 s1 stands p0 p1 turns handled cause.Write h = (h.0, tt, h.2)
unstood s0 s1 stands p0 p1 turns handled cause.NoMemory h = h
unstood s0 s1 stands p0 p1 turns handled _ h = absurd h

run_by : (n0 nr n1 : Moment) (s0 : Session) (gr : Gate) (stands : Type 0) (p0 p1 : Streams)
    (turns : ℕ) (result : Result Pumped Stopped)
    → Opens n0 s0 → Closes (session_of gr nr) n1
    → Runs s0 (session_of gr nr) stands p0 p1 turns result → PumpsBy n0 n1 p0 p1 turns result
run_by n0 nr n1 s0 gr stands p0 p1 turns (Ok told) b e r =
    (s0, session_of gr nr, b, e, (r.outcome.0, (r.outcome.1.0, tt, r.outcome.1.2)))
run_by n0 nr n1 s0 gr stands p0 p1 turns (Err told) b e r =
    inl (
      s0,
      session_of gr nr,
      b,
      e,
      (
        r.outcome.0,
        unstood s0 (session_of gr nr) stands p0 p1 turns
            told.handled told.cause r.outcome.1,
      ),
    )

pub Pumps-run : (n0 nm nr n1 : Moment) (g gr : Gate) (stands : Type 0) (p0 p1 : Streams) (turns : ℕ)
    (result : Result Pumped Stopped)
    → AttachedBy n0 nm (Ok g) → Keeps n0 nm → Runs (session_of g nm) (session_of gr nr) stands p0 p1
    turns result → nr.state.msize ≡ nm.state.msize
    → n1.state ≡ cleared nr.state → n1.faults ≡ nr.faults → n1.asked ≡ nr.asked
    → n1.steady ≡ nr.steady → Pumps n0 n1 p0 p1 turns result
Pumps-run n0 nm nr n1 g gr stands p0 p1 turns result a k r sized state faults asked same =
    let e = closes n0 nm nr n1 g gr state faults asked same in
    record {
      kept = record {
        fixed = e.settings ∙ r.stays.settings ∙ k.fixed;
        sized = ap (λ (s : ServerState). s.msize) state ∙ sized ∙ k.sized;
        rises = omega (arith, k.rises, r.stays.rises, faults);
        steady = same ∙ r.stays.steady ∙ k.steady;
        steadily = λ t. faults ∙ r.stays.steadily (subst IsTrue (sym k.steady) t) ∙ k.steadily t;
      };
      outcome = run_by n0 nr n1 (session_of g nm) gr stands p0 p1 turns result
          (opens n0 nm nr n1 g gr a k) e r;
    }
