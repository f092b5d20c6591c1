-- The text up to its line `end`, or why there is none.
use Rattle.std.proofs.Common.{◌∙◌, sym, arith, subst}
use Rattle.mount9_run.proofs.Taking.{Endless-end, Endless-limit, Taking-end, single}
use Rattle.std.specs.Io.KnownBytes.{Consumes}
use Rattle.mount9_run.proofs.header.text.take_text.Goals as goal

pub returns-then-n-eq0-clause-takes : goal.returns-then-n-eq0-clause-takes
returns-then-n-eq0-clause-takes g c =
    let e = c.in-Ok.ensures in
    record {
      answer = (
        e.cause ∙ c.bytes.invariant.takes.input,
        Endless-end _ _ _ _ _ _ _ _ _
            (sym e.bound.1 ∙ c.if-n-eq0.true) c.bytes-test.true c.bytes.invariant.takes e.bytes
            (e.end (omega (arith, c.read_full.auto.buf))),
      );
    }

pub returns-in-None-clause-takes : goal.returns-in-None-clause-takes
returns-in-None-clause-takes g c =
    let e = c.in-Ok.ensures in
    record {
      answer = Taking-end _ _ _ _ _ _ _ _ _ _ _ c.bytes.invariant.takes c.bytes-test.true
          (subst (Consumes _ _) (single c.read_full.new.buf c.in-Ok.n c.read_full.auto.buf e.bound.0
          c.if-n-eq0.false) e.bytes) e.cause (rw c.in-None.is at c.in_ok-scan.ensures);
    }

pub returns-clause-takes : goal.returns-clause-takes
returns-clause-takes g c = record {
  answer = (
    c.bytes.invariant.takes.input,
    Endless-limit _ _ _ _ _
        _ _ c.bytes.invariant.takes (omega arith),
  );
}

pub returns-then-n-eq0-clause-kept : goal.returns-then-n-eq0-clause-kept
returns-then-n-eq0-clause-kept g c = c.in-Ok.ensures.kept ∙ c.bytes.invariant.kept

pub returns-then-n-eq0-clause-lender : goal.returns-then-n-eq0-clause-lender
returns-then-n-eq0-clause-lender g c = c.in-Ok.ensures.lender ∙ c.bytes.invariant.lender

pub returns-in-Err-clause-kept : goal.returns-in-Err-clause-kept
returns-in-Err-clause-kept g c = c.in-Err.ensures.kept ∙ c.bytes.invariant.kept

pub returns-in-Err-clause-lender : goal.returns-in-Err-clause-lender
returns-in-Err-clause-lender g c = c.in-Err.ensures.lender ∙ c.bytes.invariant.lender

pub returns-in-None-clause-kept : goal.returns-in-None-clause-kept
returns-in-None-clause-kept g c = c.in-Ok.ensures.kept ∙ c.bytes.invariant.kept

pub returns-in-None-clause-lender : goal.returns-in-None-clause-lender
returns-in-None-clause-lender g c = c.in-Ok.ensures.lender ∙ c.bytes.invariant.lender

pub returns-in_err-scan-clause-kept : goal.returns-in_err-scan-clause-kept
returns-in_err-scan-clause-kept g c = c.in-Ok.ensures.kept ∙ c.bytes.invariant.kept

pub returns-in_err-scan-clause-lender : goal.returns-in_err-scan-clause-lender
returns-in_err-scan-clause-lender g c = c.in-Ok.ensures.lender ∙ c.bytes.invariant.lender

pub returns-clause-kept : goal.returns-clause-kept
returns-clause-kept g c = c.bytes.invariant.kept

pub returns-clause-lender : goal.returns-clause-lender
returns-clause-lender g c = c.bytes.invariant.lender
