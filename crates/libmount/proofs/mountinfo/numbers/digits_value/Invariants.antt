use Rattle.std.proofs.Common.{◌≡◌, ◌<◌, ◌^◌, drop}
use Rattle.libmount.proofs.NumberLemmas.{whole}
use Rattle.libmount.proofs.mountinfo.numbers.digits_value.Given as goal

abbrev pub invariant-loop-digit : goal.invariant-loop-digit
invariant-loop-digit l = record {
  fits : l.number < 2 ^ 64;
  same : whole 0 l.digits ≡ whole l.number
      (drop l.digit-index l.digits);
}
