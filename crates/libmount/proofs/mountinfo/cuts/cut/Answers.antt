-- The first place at which the mark stands is where the text is cut.
use Rattle.std.proofs.Common.{◌∙◌, sym, ap, arith, refl, List, ℕ, length, drop}
use Rattle.std.proofs.lemmas.List.{take_rest, drop_all, length-drop}
use Rattle.libmount.proofs.CutLemmas.{from, cut-placed, Looked-found, Looked-more, Looked-all}
use Rattle.libmount.proofs.mountinfo.cuts.cut.Goals as goal

pub returns-then-starts_with-clause-value : goal.returns-then-starts_with-clause-value
returns-then-starts_with-clause-value c =
    let at = c.loop-at.at in
    let mark = c.args.mark.now in
    let bytes = c.args.bytes.now in
    let found = Looked-found mark bytes at c.loop-at-test.true _ c.starts_with.ensures.value
    c.if-starts_with.true c.loop-at.invariant in
    let left = take_rest (from bytes at) (length mark)
    ∙ ap (drop (length mark)) (take_rest bytes at) in
    cut-placed mark bytes c.args.bytes.ref_ptr.1 _ _ _ _
    (sym (ap (λ (p : List ℕ × List ℕ). p.0) found))
    (left ∙ sym (ap (λ (p : List ℕ × List ℕ). p.1) found))
    refl
    (omega (
      arith,
      ap length left,
      length-drop (length mark) (drop at bytes),
      length-drop at bytes,
      ap length (take_rest bytes at),
    ))

pub loop-at-preserved : goal.loop-at-preserved
loop-at-preserved c = Looked-more c.args.mark.now c.args.bytes.now c.loop-at.at c.loop-at-test.true
    _ c.starts_with.ensures.value c.if-starts_with.false c.loop-at.invariant

pub returns-clause-value : goal.returns-clause-value
returns-clause-value c =
    let bytes = c.args.bytes.now in
    let all = Looked-all c.args.mark.now bytes c.loop-at.at (omega arith) c.loop-at.invariant in
    let left = take_rest bytes (length bytes) ∙ drop_all (length bytes) bytes (omega arith) in
    cut-placed c.args.mark.now bytes c.args.bytes.ref_ptr.1 _ _ _ _
    (sym (ap (λ (p : List ℕ × List ℕ). p.0) all))
    (left ∙ sym (ap (λ (p : List ℕ × List ℕ). p.1) all))
    refl
    (omega (arith, ap length left))
