-- The first turn, one more, and each answer of the loop.
use Rattle.std.proofs.Common.{◌∙◌, refl, sym, arith}
use Rattle.frame_pump.proofs.Pumping.{Pumping-none, Pumping-more, Completes-turn, StopsBy-turn}
use Rattle.frame_pump.proofs.Pumping.{Completes-last, StopsBy-spent, StopsBy-read}
use Rattle.frame_pump.proofs.run.handle_frames.Goals as goal

pub loop-handled-init : goal.loop-handled-init
loop-handled-init g c = record {
  pumping = Pumping-none _ _ _ c.requires;
  kept = refl;
  input =
      refl;
  lender = refl;
  output = refl;
}

pub loop-handled-preserved : goal.loop-handled-preserved
loop-handled-preserved g c =
    let h = c.loop-handled.invariant in
    let e = c.in-Ok-true.ensures in
    record {
      pumping = Pumping-more _ _ _ _ _ _ _ _ _ h.pumping (rw c.in-Ok-true.field-0-test at e.turn);
      kept = e.kept ∙ h.kept;
      input = e.input ∙ h.input;
      lender = e.lender ∙ h.lender;
      output = e.output ∙ h.output;
    }

pub returns-in-Ok-false-clause-loops : goal.returns-in-Ok-false-clause-loops
returns-in-Ok-false-clause-loops g c =
    Completes-turn _ _ _ _ _ _ _ _ _ c.loop-handled.invariant.pumping _ (omega arith)
    (rw c.in-Ok-false.field-0-test at c.in-Ok-false.ensures.turn)

pub returns-in-Err-clause-loops : goal.returns-in-Err-clause-loops
returns-in-Err-clause-loops g c = StopsBy-turn _ _ _ _ _ _ _ _ _ c.loop-handled.invariant.pumping _
    c.in-Err.cause (omega arith) c.in-Err.ensures.turn

pub returns-then-n-eq0-clause-loops : goal.returns-then-n-eq0-clause-loops
returns-then-n-eq0-clause-loops g c =
    let e = c.in-Ok.ensures in
    Completes-last _ _ _ _ _ _ _ _ c.loop-handled.invariant.pumping (omega arith) refl refl _
    e.cause (sym e.bound.1 ∙ c.if-n-eq0.true) e.bytes
    (e.end (omega (arith, c.read_full.auto.buf)))

pub returns-in-Ok-clause-loops : goal.returns-in-Ok-clause-loops
returns-in-Ok-clause-loops g c =
    let e = c.in-Ok.ensures in
    StopsBy-spent _ _ _ _ _ _ _ _ c.loop-handled.invariant.pumping (omega arith) refl refl _ e.cause
    (omega (arith, e.bound.0, e.bound.1, c.read_full.auto.buf)) e.bytes

pub returns-clause-loops : goal.returns-clause-loops
returns-clause-loops g c =
    let e = c.in-Err-read_full.ensures in
    StopsBy-read _ _ _ _ _ _ _ _ c.loop-handled.invariant.pumping (omega arith) refl refl e.err.0
    e.cause e.err.1 (omega (arith, e.err.2, c.read_full.auto.buf))
