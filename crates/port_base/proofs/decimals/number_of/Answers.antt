-- What `parse` reads of digits is their value.
use Rattle.std.proofs.Common.{sym}
use Rattle.port_base.proofs.DecimalTexts.{number_of-other, IsUtf8-number, number_of-parsed}
use Rattle.port_base.proofs.DecimalTexts.{number_of-large}
use Rattle.port_base.proofs.decimals.number_of.Goals as goal

pub returns-then-not-is_number : goal.returns-then-not-is_number
returns-then-not-is_number c = λ n lt h. let e =
    number_of-other c.args.text.now (sym c.if-not-is_number.ensures) in cc

pub unreachable-requires : goal.unreachable-requires
unreachable-requires c = c.in-Err.ensures.cases.0
    (IsUtf8-number c.args.text.now (sym c.if-not-is_number.ensures))

pub returns-in-Ok-parse : goal.returns-in-Ok-parse
returns-in-Ok-parse c = number_of-parsed c.args.text.now c.in-Ok.digits.now c.parse.result
    c.in-Ok.ensures.cases.0 (sym c.if-not-is_number.ensures) c.parse.ensures.value.0 c.in-Ok-parse.n
    c.in-Ok-parse.is

pub returns-in-Err-parse : goal.returns-in-Err-parse
returns-in-Err-parse c = number_of-large c.args.text.now c.in-Ok.digits.now c.parse.result
    c.in-Ok.ensures.cases.0 (sym c.if-not-is_number.ensures) c.parse.ensures.value.0 _
    c.in-Err-parse.is
