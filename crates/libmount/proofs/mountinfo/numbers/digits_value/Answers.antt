-- The digits go on one by one to the number, or to its first fault.
use Rattle.std.proofs.Common.{◌≡◌, ◌<◌, ◌∙◌, sym, ap, arith, refl, length}
use Rattle.std.proofs.lemmas.Bool.Decides.{nat_tests}
use Rattle.std.proofs.lemmas.List.{nil_from_length}
use Rattle.std.proofs.lemmas.Result.{err_from_is_err_and}
use Rattle.libmount.specs.Numbers.{digits_value}
use Rattle.libmount.proofs.NumberLemmas.{digits_value-nil, digits_value-whole, whole-end}
use Rattle.libmount.proofs.NumberLemmas.{whole-more, whole-stop}
use Rattle.libmount.proofs.mountinfo.numbers.digits_value.Goals as goal

pub returns-then-is_empty : goal.returns-then-is_empty
returns-then-is_empty c =
    let none : length c.args.digits.now ≡ 0 = grind (arith, nat_tests) in
    sym (ap digits_value (nil_from_length c.args.digits.now none) ∙ digits_value-nil)

pub returns-in_err-number : goal.returns-in_err-number
returns-in_err-number c =
    let p = err_from_is_err_and c.from_residual.result c.from_residual.ensures.1 in
    rw (p.1, p.2)
    (sym (digits_value-whole c.args.digits.now (omega arith) ∙ c.loop-digit.invariant.same
    ∙ whole-stop c.loop-digit.number c.loop-digit.digit-index c.args.digits.now
    c.loop-digit-test.true c.in_err-number.field-0.0 _ refl c.loop-digit.invariant.fits
    c.in_err-number.ensures))

pub loop-digit-preserved : goal.loop-digit-preserved
loop-digit-preserved c = record {
  fits = c.in_ok-number.ensures.2;
  same = c.loop-digit.invariant.same ∙ whole-more c.loop-digit.number c.loop-digit.digit-index
      c.args.digits.now c.loop-digit-test.true c.in_ok-number.number _ refl c.in_ok-number.ensures;
}

pub returns : goal.returns
returns c =
    let some : 0 < length c.args.digits.now = grind (arith, nat_tests) in
    sym (digits_value-whole c.args.digits.now some ∙ c.loop-digit.invariant.same
    ∙ whole-end c.loop-digit.number c.loop-digit.digit-index c.args.digits.now (omega arith)
    c.loop-digit.invariant.fits)
