-- An escape is one byte, and every other byte stands for itself.
use Rattle.std.proofs.Common.{◌∙◌, sym}
use Rattle.libmount.proofs.EscapeLemmas.{takes-escape, takes-plain}
use Rattle.libmount.proofs.mountinfo.escapes.first_byte.Goals as goal

pub returns-then-starts_with_escape : goal.returns-then-starts_with_escape
returns-then-starts_with_escape c =
    let e = c.starts_with_escape.ensures in
    rw c.octal_value.ensures (takes-escape c.args.text.now (e.long c.if-starts_with_escape.true)
    (sym e.value ∙ c.if-starts_with_escape.true))

pub returns-else-starts_with_escape : goal.returns-else-starts_with_escape
returns-else-starts_with_escape c = takes-plain c.args.text.now c.requires
    (sym c.starts_with_escape.ensures.value ∙ c.if-starts_with_escape.false)
