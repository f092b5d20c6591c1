use Rattle.std.proofs.Common.{◌≡◌, Err, Ok, arith, true, ℕ}
use Rattle.std.proofs.lemmas.Result.{err_from_is_err_and}
use Rattle.std.specs.Int.{w32, from_le_bytes}
use Rattle.p9_wire.specs.declared.error.WireError.TheVariants.{InvalidData}
use Rattle.p9_wire.specs.Reading.{then_read, give, bytes_at, fixed_at}
use Rattle.std.proofs.lemmas.Bool.{le-leb}
use Rattle.p9_wire.specs.declared.data.Data.{Data}
use Rattle.p9_wire.specs.Steps.{Decodes-stops, Decodes-after, Decodes-give}
use Rattle.p9_wire.specs.Texts.{read_if, data_len, Decodes-passed}
use Rattle.p9_wire.proofs.data.DataWireFormat.decode.Goals as goal

pub returns-in_err-bytes-clause-decodes : goal.returns-in_err-bytes-clause-decodes
returns-in_err-bytes-clause-decodes g c =
    let p = err_from_is_err_and c.from_residual-in_err-bytes.result
    c.from_residual-in_err-bytes.ensures.1 in
    let view = λ (d : Data). d.0.items in
    let body = λ (n : ℕ). read_if (data_len n) InvalidData
    (then_read (bytes_at n) (λ bs. give bs)) in
    let few : data_len c.in_ok-count.count ≡ true = le-leb _ _ (omega arith) in
    rw (p.1, p.2) (Decodes-after (λ n. n) view
    (fixed_at 4 (from_le_bytes w32)) body _ _ _ _ _ _ c.in_ok-count.count
    (Err c.in_err-bytes.field-0.0) c.in_ok-count.ensures.decodes
    (Decodes-passed view (data_len c.in_ok-count.count) InvalidData
    (then_read (bytes_at c.in_ok-count.count) (λ bs. give bs)) _ _ _ _ _ few
    (Decodes-stops (λ v. v.items) view (bytes_at c.in_ok-count.count)
    (λ bs. give bs) _ _ _ _ c.in_err-bytes.field-0.0 c.in_err-bytes.ensures.decodes)))

pub returns-clause-decodes : goal.returns-clause-decodes
returns-clause-decodes g c =
    let view = λ (d : Data). d.0.items in
    let body = λ (n : ℕ). read_if (data_len n) InvalidData
    (then_read (bytes_at n) (λ bs. give bs)) in
    let few : data_len c.in_ok-count.count ≡ true = le-leb _ _ (omega arith) in
    let made : Data = record { 0 = c.in_ok-bytes.bytes } in
    Decodes-after (λ n. n) view (fixed_at 4 (from_le_bytes w32)) body _ _ _ _ _ _
    c.in_ok-count.count (Ok made) c.in_ok-count.ensures.decodes
    (Decodes-passed view (data_len c.in_ok-count.count) InvalidData
    (then_read (bytes_at c.in_ok-count.count) (λ bs. give bs)) _ _ _ _ _ few
    (Decodes-after (λ v. v.items) view (bytes_at c.in_ok-count.count)
    (λ bs. give bs) _ _ _ _ _ _ c.in_ok-bytes.bytes (Ok made) c.in_ok-bytes.ensures.decodes
    (Decodes-give view made _ _)))
