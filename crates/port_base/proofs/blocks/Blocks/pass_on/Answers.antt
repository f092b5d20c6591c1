-- What waits was written, in whole or in part.
use Rattle.std.proofs.Common.{◌≡◌, ℕ, List, ◌+◌, ◌-◌, length, ap, sym, subst, arith, Ok, Err}
use Rattle.port_base.specs.Blocks.{Passes}
use Rattle.port_base.proofs.BlockWrites.{passed_all, passed_part}
use Rattle.port_base.proofs.blocks.Blocks.pass_on.Goals as goal

pub returns-in-Ok-clause-passes : goal.returns-in-Ok-clause-passes
returns-in-Ok-clause-passes g c =
    let e = c.in-Ok.ensures in
    let len : length c.deref.result.now ≡ c.len.result =
    omega (arith, ap (length {A = ℕ}) c.deref.ensures.value, c.len.ensures) in
    subst (λ (x : List ℕ × (List ℕ × ℕ)). Passes (g.K.Sink.sent c.args.self.now.inner.now)
    (g.K.Sink.sent c.write_counted.new.sink) x.0 x.1.0 c.args.self.now.gone 0
    c.args.self.now.passed (c.args.self.now.passed + (x.1.1 - c.args.self.now.gone))
    (g.K.Sink.room c.args.self.now.inner.now) (g.K.Sink.room c.write_counted.new.sink)
    (g.K.Sink.faults c.args.self.now.inner.now) (g.K.Sink.faults c.write_counted.new.sink)
    (Ok tt))
    (λ j. (c.deref.ensures.value j, (sym c.clear.ensures.items j, len j)))
    (passed_all (g.K.Sink.sent c.args.self.now.inner.now) (g.K.Sink.sent c.write_counted.new.sink)
    c.deref.result.now c.args.self.now.gone c.args.self.now.passed
    (g.K.Sink.room c.args.self.now.inner.now) (g.K.Sink.room c.write_counted.new.sink)
    (g.K.Sink.faults c.args.self.now.inner.now) (g.K.Sink.faults c.write_counted.new.sink)
    (omega (arith, ap (length {A = ℕ}) c.deref.ensures.value)) e.silent e.ok e.room e.cause)

pub returns-in-Err-clause-passes : goal.returns-in-Err-clause-passes
returns-in-Err-clause-passes g c =
    let e = c.in-Err.ensures in
    subst (λ (w : List ℕ). Passes (g.K.Sink.sent c.args.self.now.inner.now)
    (g.K.Sink.sent c.write_counted.new.sink) w w c.args.self.now.gone
    (c.args.self.now.gone + c.in-Err.part.count) c.args.self.now.passed
    (c.args.self.now.passed + c.in-Err.part.count) (g.K.Sink.room c.args.self.now.inner.now)
    (g.K.Sink.room c.write_counted.new.sink) (g.K.Sink.faults c.args.self.now.inner.now)
    (g.K.Sink.faults c.write_counted.new.sink) (Err c.in-Err.part.fault)) c.deref.ensures.value
    (passed_part (g.K.Sink.sent c.args.self.now.inner.now) (g.K.Sink.sent c.write_counted.new.sink)
    c.deref.result.now c.args.self.now.gone c.args.self.now.passed
    (g.K.Sink.room c.args.self.now.inner.now) (g.K.Sink.room c.write_counted.new.sink)
    (g.K.Sink.faults c.args.self.now.inner.now) (g.K.Sink.faults c.write_counted.new.sink)
    (omega (arith, ap (length {A = ℕ}) c.deref.ensures.value)) e.silent c.in-Err.part.count
    c.in-Err.part.fault e.within e.err e.room e.memory e.cause)
