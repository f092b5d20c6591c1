-- The first piece, the next ones, and each end.
use Rattle.std.proofs.Common.{◌≡◌, ◌<◌, ℕ, List, ◌++◌, length, ◌∙◌, ap, inl, inr, ◌⊎◌, arith}
use Rattle.p9_client.specs.Views.{bytes_answer}
use Rattle.fuse_wire.specs.Answers.{rest_of}
use Rattle.fuse_gate.proofs.Asking.{fid_tells}
use Rattle.fuse_gate.proofs.Desks.{rest_none, behind_none, rest_more, behind_more, rest_long}
use Rattle.fuse_gate.proofs.Reading.{begins, reading_fits, refused, finished, goes_on}
use Rattle.fuse_gate.proofs.gate.Gate.read_pieces.Goals as goal
use Rattle.fuse_gate.proofs.gate.Gate.read_pieces.Goals.{then-len-asked-via-then-len-asked}
use Rattle.fuse_gate.proofs.gate.Gate.read_pieces.Goals.{then-len-asked-via-else-len-asked+then-len-before}

pub pieces-init : goal.pieces-init
pieces-init g c = record {
  reading = begins _ c.args.offset c.args.size c.args.self.now (g.N.Nine.at c.args.nine.now)
      (rest_of c.args.out.now.items c.args.out.now.items) (rest_none c.args.out.now.items);
  behind = behind_none c.args.out.now.items;
  before = c.len-before.ensures;
}

pub overflow_add-offset : goal.overflow_add-offset
overflow_add-offset g c =
    let had = rest_of c.args.out.now.items c.pieces.out.items in
    let long = rest_long c.args.out.now.items c.pieces.out.items c.pieces.invariant.behind in
    let low = reading_fits (g.N.Nine.at c.args.nine.now) c.requires.stands c.requires.opened
    had c.args.offset c.pieces.invariant.reading.so_far (omega arith) in
    omega (arith, low, long, c.pieces.out.ok.0, c.args.out.now.ok.0, c.pieces.invariant.before, c.len.ensures)

pub returns-in-Err-clause-served : goal.returns-in-Err-clause-served
returns-in-Err-clause-served g c =
    let long = rest_long c.args.out.now.items c.pieces.out.items c.pieces.invariant.behind in
    refused (g.N.Nine.at c.args.nine.now) c.requires.stands c.requires.opened c.args.offset
    c.args.size c.pieces.invariant.reading _ c.min-asked.result
    (omega (arith, long, c.pieces.out.ok.0, c.args.out.now.ok.0, c.pieces.invariant.before, c.len.ensures))
    (omega (arith, long, c.pieces.out.ok.0, c.args.out.now.ok.0, c.pieces.invariant.before, c.len.ensures))
    c.count_message.new.self (g.N.Nine.at c.read.new.nine) c.count_message.ensures
    c.in_ok-told.ensures.answer.asked c.in_ok-told.ensures.kept (bytes_answer c.in_ok-told.told)
    (fid_tells c.in_ok-told.ensures.answer)
    c.in-Err.errno (ap bytes_answer c.in-Err.is)

pub returns-then-len-asked-clause-served : goal.returns-then-len-asked-clause-served
returns-then-len-asked-clause-served g c =
    let before = c.args.out.now.items in
    let more : c.extend_from_slice.new.self.items ≡ c.pieces.out.items ++ c.in-Ok.data.0.items =
    c.in-Ok-extend_from_slice.ensures.items
    ∙ ap (λ (xs : List ℕ). c.pieces.out.items ++ xs) c.deref.ensures.value in
    let longer = rest_more before c.pieces.out.items c.pieces.invariant.behind c.in-Ok.data.0.items
    c.extend_from_slice.new.self.items more in
    let long = rest_long before c.pieces.out.items c.pieces.invariant.behind in
    let now = rest_long before c.extend_from_slice.new.self.items
    (behind_more before c.pieces.out.items c.pieces.invariant.behind c.in-Ok.data.0.items
    c.extend_from_slice.new.self.items more) in
    let ends : (length c.in-Ok.data.0.items < c.min-asked.result)
    ⊎ (length (rest_of before c.extend_from_slice.new.self.items) ≡ c.args.size) =
    elim c.then-len-asked.branch [
      | then-len-asked-via-then-len-asked w ↦ inl
          (omega (arith, w.if-len-asked.true, c.in-Ok.data.0.ok.0))
      | then-len-asked-via-else-len-asked+then-len-before w ↦ inr
          (omega (
            arith,
            w.if-len-before.true,
            w.len-else-len-asked.ensures,
            now,
            c.extend_from_slice.new.self.ok.0,
            c.args.out.now.ok.0,
            c.pieces.invariant.before,
          ))
    ] in
    finished (g.N.Nine.at c.args.nine.now) c.requires.stands c.requires.opened c.args.offset
    c.args.size c.pieces.invariant.reading _ c.min-asked.result
    (omega (arith, long, c.pieces.out.ok.0, c.args.out.now.ok.0, c.pieces.invariant.before, c.len.ensures))
    (omega (arith, long, c.pieces.out.ok.0, c.args.out.now.ok.0, c.pieces.invariant.before, c.len.ensures))
    c.count_message.new.self (g.N.Nine.at c.read.new.nine) c.count_message.ensures
    c.in_ok-told.ensures.answer.asked c.in_ok-told.ensures.kept (bytes_answer c.in_ok-told.told)
    (fid_tells c.in_ok-told.ensures.answer)
    c.in-Ok.data (ap bytes_answer c.in-Ok.is)
    (rest_of before c.extend_from_slice.new.self.items) longer (g.met.N.Nine.good c.args.nine.now)
    ends

pub pieces-preserved : goal.pieces-preserved
pieces-preserved g c =
    let before = c.args.out.now.items in
    let more : c.extend_from_slice.new.self.items ≡ c.pieces.out.items ++ c.in-Ok.data.0.items =
    c.in-Ok-extend_from_slice.ensures.items
    ∙ ap (λ (xs : List ℕ). c.pieces.out.items ++ xs) c.deref.ensures.value in
    let longer = rest_more before c.pieces.out.items c.pieces.invariant.behind c.in-Ok.data.0.items
    c.extend_from_slice.new.self.items more in
    let long = rest_long before c.pieces.out.items c.pieces.invariant.behind in
    let behind = behind_more before c.pieces.out.items c.pieces.invariant.behind
    c.in-Ok.data.0.items c.extend_from_slice.new.self.items more in
    let now = rest_long before c.extend_from_slice.new.self.items behind in
    record {
      reading = goes_on (g.N.Nine.at c.args.nine.now) c.requires.stands c.requires.opened
          c.args.offset c.args.size c.pieces.invariant.reading _ c.min-asked.result
          (omega (arith, long, c.pieces.out.ok.0, c.args.out.now.ok.0, c.pieces.invariant.before, c.len.ensures))
          (omega (arith, long, c.pieces.out.ok.0, c.args.out.now.ok.0, c.pieces.invariant.before, c.len.ensures))
          c.count_message.new.self (g.N.Nine.at c.read.new.nine) c.count_message.ensures
          c.in_ok-told.ensures.answer.asked c.in_ok-told.ensures.kept
          (bytes_answer c.in_ok-told.told) (fid_tells c.in_ok-told.ensures.answer)
          c.in-Ok.data (ap bytes_answer c.in-Ok.is)
          (rest_of before c.extend_from_slice.new.self.items) longer
          (omega (arith, c.if-len-asked.false, c.in-Ok.data.0.ok.0))
          (λ e. c.if-len-before.false (omega (
            arith,
            e,
            now,
            c.len-else-len-asked.ensures,
            c.extend_from_slice.new.self.ok.0,
            c.args.out.now.ok.0,
            c.pieces.invariant.before,
          )));
      behind = behind;
      before = c.pieces.invariant.before;
    }
