-- Each answer of a taking, from what the two reads took.
use Rattle.std.proofs.Common.{◌≡◌, take, false, ap, sym, ◌∙◌, arith, take_all}
use Rattle.std.proofs.lemmas.Result.{err_from_is_err_and}
use Rattle.fuse_wire.specs.Fields.{u32_at}
use Rattle.fuse_wire.specs.Cuts.{is_allowed}
use Rattle.fuse_wire.proofs.Takings.{stands-nothing, stands-few, stands-odd_length, takes-frame}
use Rattle.fuse_wire.proofs.Takings.{stands-part, takes-stopped}
use Rattle.fuse_wire.proofs.frames.next_frame.Goals as goal

pub returns-then-n-eq0-clause-takes : goal.returns-then-n-eq0-clause-takes
returns-then-n-eq0-clause-takes g c =
    let e = c.in-Ok.ensures in
    let end = e.end (omega (arith, c.read_full.auto.buf)) in
    (e.cause, stands-nothing _ _ _ e.bytes (sym e.bound.1 ∙ c.if-n-eq0.true) end, end)

pub returns-then-n-lt4-clause-takes : goal.returns-then-n-lt4-clause-takes
returns-then-n-lt4-clause-takes g c =
    let e = c.in-Ok.ensures in
    let end = e.end (omega (arith, c.read_full.auto.buf)) in (
      e.cause,
      stands-few _ _ _ e.bytes (omega (arith, e.bound.1))
          (omega (arith, e.bound.1)) end,
      end,
    )

pub returns-then-not-is_allowed-clause-takes : goal.returns-then-not-is_allowed-clause-takes
returns-then-not-is_allowed-clause-takes g c =
    let e = c.in-Ok.ensures in
    let whole : take c.in-Ok.n c.read_full.new.buf ≡ c.read_full.new.buf =
    take_all _ _ (omega (arith, c.read_full.auto.buf)) in
    let odd : is_allowed (u32_at c.read_full.new.buf 0) ≡ false =
    ap is_allowed (sym c.u32_at-len.ensures) ∙ sym c.if-not-is_allowed.ensures.value in (
      e.cause,
      stands-odd_length _ _ _ (rw whole at e.bytes)
          (omega (arith, c.read_full.auto.buf)) odd,
      (c.read_full.new.buf, rw whole at e.bytes, c.read_full.auto.buf),
    )

pub returns-then-branch-clause-takes : goal.returns-then-branch-clause-takes
returns-then-branch-clause-takes g c =
    let e = c.in-Ok.ensures in
    let whole : take c.in-Ok.n c.read_full.new.buf ≡ c.read_full.new.buf =
    take_all _ _ (omega (arith, c.read_full.auto.buf)) in
    let filled = rw c.if-branch.true at c.in_ok-fill.ensures.fills in
    let behind = rw c.in_ok-begin.ensures.ok at filled.1 in
    let t = takes-frame _ _ _ c.read_full.new.buf c.u32_at-len.result c.read_full.auto.buf
    c.u32_at-len.ensures (sym c.if-not-is_allowed.ensures.value) (omega arith)
    (rw whole at e.bytes) _ behind in
    (filled.0 ∙ e.cause, t.0, t.1)

pub returns-else-branch-clause-takes : goal.returns-else-branch-clause-takes
returns-else-branch-clause-takes g c =
    let e = c.in-Ok.ensures in
    let whole : take c.in-Ok.n c.read_full.new.buf ≡ c.read_full.new.buf =
    take_all _ _ (omega (arith, c.read_full.auto.buf)) in
    let filled = rw c.if-branch.false at c.in_ok-fill.ensures.fills in (
      filled.0 ∙ e.cause,
      stands-part _ _ _ c.read_full.new.buf c.u32_at-len.result
          c.read_full.auto.buf c.u32_at-len.ensures (sym c.if-not-is_allowed.ensures.value)
          (omega arith) (rw whole at e.bytes) filled.1 filled.2,
      filled.2,
    )

pub returns-in_err-fill-clause-takes : goal.returns-in_err-fill-clause-takes
returns-in_err-fill-clause-takes g c =
    let e = c.in-Ok.ensures in
    let whole : take c.in-Ok.n c.read_full.new.buf ≡ c.read_full.new.buf =
    take_all _ _ (omega (arith, c.read_full.auto.buf)) in
    let p = err_from_is_err_and c.from_residual-in_err-fill.result
    c.from_residual-in_err-fill.ensures.1 in
    rw (p.1, p.2) (takes-stopped _ _ _ c.read_full.new.buf c.u32_at-len.result c.read_full.auto.buf
    c.u32_at-len.ensures (sym c.if-not-is_allowed.ensures.value) (omega arith)
    (rw whole at e.bytes) _ _ _ c.begin.new.frame.items c.fill.new.frame.items
    c.in_err-fill.field-0.0 e.cause c.in_err-fill.ensures.fills)
