use Rattle.std.proofs.Common.{◌≤◌, sym, take, drop, length, arith, inl, inr, ◌-◌}
use Rattle.std.proofs.lemmas.List.{take-append-le, length-append, length-take, length-drop}
use Rattle.std.proofs.lemmas.Bool.{cases_eq}
use Rattle.port_base.proofs.Takes.{kept_at, took_front, kept_beyond, end_of, nothing_of}
use Rattle.port_base.proofs.take.TakeSource.read.Goals as goal

pub returns-in_err-n-clause-kept : goal.returns-in_err-n-clause-kept
returns-in_err-n-clause-kept g c =
    let e = c.in_err-n.ensures in
    let same = kept_at (drop c.args.self.now.rest) (g.S.Source.left c.args.self.now.source.now)
    (g.S.Source.left c.read.new.self) e.bytes e.silent in
    λ t. (same t, (e.lender t, e.kept t))

pub returns-clause-kept : goal.returns-clause-kept
returns-clause-kept g c =
    let e = c.in_ok-n.ensures in
    let within : c.in_ok-n.n ≤ c.args.self.now.rest =
    omega (
      arith,
      e.bound.0,
      c.read.auto.buf,
      length-take c.at_most-most.result c.args.buf.now,
      c.at_most-most.ensures,
    ) in
    let same = kept_beyond c.args.self.now.rest c.in_ok-n.n (take c.in_ok-n.n c.read.new.buf)
    (sym e.bound.1) within (g.S.Source.left c.args.self.now.source.now)
    (g.S.Source.left c.read.new.self) e.bytes.0 e.silent in
    λ t. (same t, (e.lender t, e.kept t))

pub returns-clause-bytes : goal.returns-clause-bytes
returns-clause-bytes g c =
    let e = c.in_ok-n.ensures in
    let within : c.in_ok-n.n ≤ c.args.self.now.rest =
    omega (
      arith,
      e.bound.0,
      c.read.auto.buf,
      length-take c.at_most-most.result c.args.buf.now,
      c.at_most-most.ensures,
    ) in (
      rw (take-append-le c.in_ok-n.n c.read.new.buf (drop c.at_most-most.result c.args.buf.now)
          e.bound.0) (took_front c.args.self.now.rest c.in_ok-n.n (take c.in_ok-n.n c.read.new.buf)
          (sym e.bound.1) within (g.S.Source.left c.args.self.now.source.now)
          (g.S.Source.left c.read.new.self) e.bytes.0),
      λ none some.
          elim (cases_eq (length c.read.new.buf) 0) [
            | inl empty ↦ nothing_of (c.args.self.now.rest - c.in_ok-n.n)
                (g.S.Source.left c.read.new.self)
                (omega (
                  arith,
                  empty,
                  some,
                  c.read.auto.buf,
                  length-take c.at_most-most.result
                      c.args.buf.now,
                  c.at_most-most.ensures,
                  length-append c.read.new.buf
                      (drop c.at_most-most.result c.args.buf.now),
                  length-drop c.at_most-most.result
                      c.args.buf.now,
                ))
            | inr filled ↦ end_of (c.args.self.now.rest - c.in_ok-n.n)
                (g.S.Source.left c.read.new.self) (e.bytes.1 none (omega (arith, filled)))
          ],
    )
