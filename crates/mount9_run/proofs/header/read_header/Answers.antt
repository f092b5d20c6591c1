-- A header is read from the text at the front of the bytes.
use Rattle.std.proofs.Common.{◌∙◌, sym, ap}
use Rattle.mount9_run.specs.Header.{text_of}
use Rattle.mount9_run.proofs.Alone.{header_alone-text, header_alone-none}
use Rattle.mount9_run.proofs.header.read_header.Goals as goal

pub returns-in-Ok-clause-value : goal.returns-in-Ok-clause-value
returns-in-Ok-clause-value c =
    let t = c.in-Ok.ensures.takes.answer in
    let e = header_alone-text c.args.bytes.now c.take_text.new.text.items
    c.take_text.new.source.rest.now (sym c.new-source.ensures ∙ t.1) t.2 in
    rw (e, ← c.deref.ensures.value) c.read_text.ensures.value

pub returns-in-Err-NoEnd-clause-value : goal.returns-in-Err-NoEnd-clause-value
returns-in-Err-NoEnd-clause-value c =
    let t = rw c.in-Err-NoEnd.field-0-is at c.in-Err-NoEnd.ensures.takes.answer in
    header_alone-none c.args.bytes.now (ap text_of (sym c.new-source.ensures) ∙ t.1.none)
