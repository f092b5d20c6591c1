-- The first piece, the next ones, and each end.
use Rattle.std.proofs.Common.{◌≡◌, ◌<◌, ◌+◌, ◌⊎◌, inl, inr, length, refl, arith}
use Rattle.port_base.specs.declared.errno.TheConstants.{EFBIG}
use Rattle.fuse_gate.proofs.Asking.{on_err}
use Rattle.fuse_gate.proofs.WritingPieces.{begins, unfinished, ended, refused, finished}
use Rattle.fuse_gate.proofs.WritingPieces.{written_low, nearer, goes_on}
use Rattle.fuse_gate.proofs.gate.Gate.write_pieces.Goals as goal
use Rattle.fuse_gate.proofs.gate.Gate.write_pieces.Goals.{then-count-size-via-then-count-size}
use Rattle.fuse_gate.proofs.gate.Gate.write_pieces.Goals.{then-count-size-via-else-count-size+then-written-bytes}
use Rattle.fuse_gate.proofs.gate.Gate.write_pieces.Goals.{else-errno-eq-EFBIG-via-then-errno-eq-EFBIG+else-written-gt0}
use Rattle.fuse_gate.proofs.gate.Gate.write_pieces.Goals.{else-errno-eq-EFBIG-via-else-errno-eq-EFBIG}

pub pieces-init : goal.pieces-init
pieces-init g c = begins c.args.self.now (g.N.Nine.at c.args.nine.now) c.args.fid c.args.offset
    c.args.bytes.now (g.met.N.Nine.good c.args.nine.now) c.requires.opened

pub returns-in_err-told-clause-unfinished : goal.returns-in_err-told-clause-unfinished
returns-in_err-told-clause-unfinished g c = on_err c.from_residual.result _
    (unfinished c.args.self.now (g.N.Nine.at c.args.nine.now) c.args.fid c.args.offset c.args.bytes.now
    c.requires.stands c.pieces.invariant (g.met.N.Nine.good c.pieces.nine)
    c.saturating_add-place.result c.min-size.result
    (omega (arith, c.saturating_add-place.ensures)) (omega arith)
    (omega (arith, c.min-size.ensures, c.min.ensures, c.msize.ensures)) _ refl
    _ c.in_err-told.ensures.unfinished)

pub returns-then-written-gt0-clause-served : goal.returns-then-written-gt0-clause-served
returns-then-written-gt0-clause-served g c =
    ended c.args.self.now (g.N.Nine.at c.args.nine.now) c.args.fid c.args.offset c.args.bytes.now
    c.requires.stands c.pieces.invariant (g.met.N.Nine.good c.pieces.nine)
    c.saturating_add-place.result c.min-size.result
    (omega (arith, c.saturating_add-place.ensures)) (omega arith)
    (omega (arith, c.min-size.ensures, c.min.ensures, c.msize.ensures)) _ refl
    c.count_message.new.self (g.N.Nine.at c.write.new.nine) c.count_message.ensures
    c.in_ok-told.ensures.answer.asked c.in_ok-told.ensures.kept
    (g.met.N.Nine.good c.write.new.nine) c.in_ok-told.told c.in_ok-told.ensures.answer.asks
    c.in-Err.errno c.in-Err.is c.if-errno-eq-EFBIG.true (omega (arith, c.if-written-gt0.true))

pub returns-in-Err-clause-served : goal.returns-in-Err-clause-served
returns-in-Err-clause-served g c =
    let alone : c.in-Err.errno ≡ EFBIG → c.pieces.written ≡ 0 =
    elim c.else-errno-eq-EFBIG.branch [
      | else-errno-eq-EFBIG-via-then-errno-eq-EFBIG+else-written-gt0 w ↦ λ is.
          omega (arith, w.if-written-gt0.false)
      | else-errno-eq-EFBIG-via-else-errno-eq-EFBIG w ↦ λ is. absurd (w.if-errno-eq-EFBIG.false is)
    ] in
    refused c.args.self.now (g.N.Nine.at c.args.nine.now) c.args.fid c.args.offset c.args.bytes.now
    c.requires.stands c.pieces.invariant (g.met.N.Nine.good c.pieces.nine)
    c.saturating_add-place.result c.min-size.result
    (omega (arith, c.saturating_add-place.ensures)) (omega arith)
    (omega (arith, c.min-size.ensures, c.min.ensures, c.msize.ensures)) _ refl
    c.count_message.new.self (g.N.Nine.at c.write.new.nine) c.count_message.ensures
    c.in_ok-told.ensures.answer.asked c.in_ok-told.ensures.kept
    (g.met.N.Nine.good c.write.new.nine) c.in_ok-told.told c.in_ok-told.ensures.answer.asks
    c.in-Err.errno c.in-Err.is alone

pub overflow_cast-result-then-count-size : goal.overflow_cast-result-then-count-size
overflow_cast-result-then-count-size g c =
    let few =
    written_low c.args.self.now (g.N.Nine.at c.args.nine.now) c.args.fid c.args.offset c.args.bytes.now
    c.requires.stands c.pieces.invariant (g.met.N.Nine.good c.pieces.nine)
    c.saturating_add-place.result c.min-size.result
    (omega (arith, c.saturating_add-place.ensures)) (omega arith)
    (omega (arith, c.min-size.ensures, c.min.ensures, c.msize.ensures)) _ refl
    c.count_message.new.self (g.N.Nine.at c.write.new.nine) c.count_message.ensures
    c.in_ok-told.ensures.answer.asked c.in_ok-told.ensures.kept
    (g.met.N.Nine.good c.write.new.nine) c.in_ok-told.told c.in_ok-told.ensures.answer.asks
    c.in-Ok.count c.in-Ok.is in
    omega (arith, few)

pub returns-then-count-size-clause-served : goal.returns-then-count-size-clause-served
returns-then-count-size-clause-served g c =
    let last : (c.in-Ok.count < c.min-size.result)
    ⊎ (c.pieces.written + c.in-Ok.count ≡ length c.args.bytes.now) =
    elim c.then-count-size.branch [
      | then-count-size-via-then-count-size w ↦ inl (omega (arith, w.if-count-size.true))
      | then-count-size-via-else-count-size+then-written-bytes w ↦ inr
          (omega (arith, w.if-written-bytes.true))
    ] in
    finished c.args.self.now (g.N.Nine.at c.args.nine.now) c.args.fid c.args.offset c.args.bytes.now
    c.requires.stands c.pieces.invariant (g.met.N.Nine.good c.pieces.nine)
    c.saturating_add-place.result c.min-size.result
    (omega (arith, c.saturating_add-place.ensures)) (omega arith)
    (omega (arith, c.min-size.ensures, c.min.ensures, c.msize.ensures)) _ refl
    c.count_message.new.self (g.N.Nine.at c.write.new.nine) c.count_message.ensures
    c.in_ok-told.ensures.answer.asked c.in_ok-told.ensures.kept
    (g.met.N.Nine.good c.write.new.nine) c.in_ok-told.told c.in_ok-told.ensures.answer.asks
    c.in-Ok.count c.in-Ok.is last

pub pieces-smaller : goal.pieces-smaller
pieces-smaller g c =
    nearer c.args.self.now (g.N.Nine.at c.args.nine.now) c.args.fid c.args.offset c.args.bytes.now
    c.requires.stands c.pieces.invariant (g.met.N.Nine.good c.pieces.nine)
    c.saturating_add-place.result c.min-size.result
    (omega (arith, c.saturating_add-place.ensures)) (omega arith)
    (omega (arith, c.min-size.ensures, c.min.ensures, c.msize.ensures)) _ refl
    c.count_message.new.self (g.N.Nine.at c.write.new.nine) c.count_message.ensures
    c.in_ok-told.ensures.answer.asked c.in_ok-told.ensures.kept
    (g.met.N.Nine.good c.write.new.nine) c.in_ok-told.told c.in_ok-told.ensures.answer.asks
    c.in-Ok.count c.in-Ok.is (omega (arith, c.if-count-size.false))
    (λ is. c.if-written-bytes.false (omega (arith, is)))

pub pieces-preserved : goal.pieces-preserved
pieces-preserved g c =
    goes_on c.args.self.now (g.N.Nine.at c.args.nine.now) c.args.fid c.args.offset c.args.bytes.now
    c.requires.stands c.pieces.invariant (g.met.N.Nine.good c.pieces.nine)
    c.saturating_add-place.result c.min-size.result
    (omega (arith, c.saturating_add-place.ensures)) (omega arith)
    (omega (arith, c.min-size.ensures, c.min.ensures, c.msize.ensures)) _ refl
    c.count_message.new.self (g.N.Nine.at c.write.new.nine) c.count_message.ensures
    c.in_ok-told.ensures.answer.asked c.in_ok-told.ensures.kept
    (g.met.N.Nine.good c.write.new.nine) c.in_ok-told.told c.in_ok-told.ensures.answer.asks
    c.in-Ok.count c.in-Ok.is (omega (arith, c.if-count-size.false))
    (λ is. c.if-written-bytes.false (omega (arith, is)))
