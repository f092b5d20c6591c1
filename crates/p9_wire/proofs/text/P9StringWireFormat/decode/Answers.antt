use Rattle.std.proofs.Common.{◌≡◌, Err, Ok, arith, true, false, ℕ}
use Rattle.std.proofs.lemmas.Result.{err_from_is_err_and}
use Rattle.std.specs.Int.{w16, from_le_bytes}
use Rattle.p9_wire.specs.declared.error.WireError.TheVariants.{InvalidInput}
use Rattle.p9_wire.specs.Reading.{then_read, give, bytes_at, fixed_at}
use Rattle.p9_wire.specs.Texts.{is_text, read_if, Decodes-refused, Decodes-accepted}
use Rattle.p9_wire.specs.Steps.{Decodes-stops, Decodes-after}
use Rattle.p9_wire.proofs.text.P9StringWireFormat.decode.Goals as goal

pub returns-in_err-bytes-clause-decodes : goal.returns-in_err-bytes-clause-decodes
returns-in_err-bytes-clause-decodes g c =
    let p = err_from_is_err_and c.from_residual-in_err-bytes.result
    c.from_residual-in_err-bytes.ensures.1 in
    let body = λ (n : ℕ). then_read (bytes_at n)
    (λ bs. read_if (is_text bs) InvalidInput (give bs)) in
    rw (p.1, p.2) (Decodes-after (λ n. n) (λ s. s)
    (fixed_at 2 (from_le_bytes w16)) body _ _ _ _ _ _ c.in_ok-count.count
    (Err c.in_err-bytes.field-0.0) c.in_ok-count.ensures.decodes
    (Decodes-stops (λ v. v.items) (λ s. s) (bytes_at c.in_ok-count.count)
    (λ bs. read_if (is_text bs) InvalidInput (give bs)) _ _ _ _ c.in_err-bytes.field-0.0
    c.in_err-bytes.ensures.decodes))

pub returns-then-not-test_text-clause-decodes : goal.returns-then-not-test_text-clause-decodes
returns-then-not-test_text-clause-decodes g c =
    let body = λ (n : ℕ). then_read (bytes_at n)
    (λ bs. read_if (is_text bs) InvalidInput (give bs)) in
    let no : is_text c.in_ok-bytes.bytes.items ≡ false = grind (arith, c.test_text.ensures) in
    Decodes-after (λ n. n) (λ s. s) (fixed_at 2 (from_le_bytes w16)) body _ _ _ _ _ _
    c.in_ok-count.count (Err InvalidInput) c.in_ok-count.ensures.decodes
    (Decodes-after (λ v. v.items) (λ s. s) (bytes_at c.in_ok-count.count)
    (λ bs. read_if (is_text bs) InvalidInput (give bs)) _ _ _ _ _ _ c.in_ok-bytes.bytes
    (Err InvalidInput) c.in_ok-bytes.ensures.decodes
    (Decodes-refused (λ s. s) (give c.in_ok-bytes.bytes.items)
    (is_text c.in_ok-bytes.bytes.items) _ _ no))

pub returns-clause-decodes : goal.returns-clause-decodes
returns-clause-decodes g c =
    let body = λ (n : ℕ). then_read (bytes_at n)
    (λ bs. read_if (is_text bs) InvalidInput (give bs)) in
    let yes : is_text c.in_ok-bytes.bytes.items ≡ true = grind (arith, c.test_text.ensures) in
    Decodes-after (λ n. n) (λ s. s) (fixed_at 2 (from_le_bytes w16)) body _ _ _ _ _ _
    c.in_ok-count.count (Ok c.in_ok-bytes.bytes.items) c.in_ok-count.ensures.decodes
    (Decodes-after (λ v. v.items) (λ s. s) (bytes_at c.in_ok-count.count)
    (λ bs. read_if (is_text bs) InvalidInput (give bs)) _ _ _ _ _ _ c.in_ok-bytes.bytes
    (Ok c.in_ok-bytes.bytes.items) c.in_ok-bytes.ensures.decodes
    (Decodes-accepted (λ s. s) InvalidInput c.in_ok-bytes.bytes.items
    (is_text c.in_ok-bytes.bytes.items) _ _ yes))

pub invariant_of-result : goal.invariant_of-result
invariant_of-result g c =
    let yes : is_text c.in_ok-bytes.bytes.items ≡ true = grind (arith, c.test_text.ensures) in
    (omega (arith, c.in_ok-bytes.ensures.len), yes)
