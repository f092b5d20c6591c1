-- From the end back, no mark was passed.
use Rattle.std.proofs.Common.{refl, arith}
use Rattle.libmount.proofs.PartLemmas.{IsLast-end, IsLast-found, IsLast-more, IsLast-none}
use Rattle.libmount.proofs.mountinfo.parts.last_mark.Goals as goal

pub bytes-init : goal.bytes-init
bytes-init c = IsLast-end c.args.mark c.args.text.now

pub returns-then-text-at : goal.returns-then-text-at
returns-then-text-at c = IsLast-found c.args.mark c.args.text.now c.bytes.at _ _ c.bytes-test.true
    refl refl c.bytes.invariant c.if-text-at.true

pub bytes-preserved : goal.bytes-preserved
bytes-preserved c = IsLast-more c.args.mark c.args.text.now c.bytes.at _ _ c.bytes-test.true refl
    refl c.bytes.invariant c.if-text-at.false

pub returns : goal.returns
returns c = IsLast-none c.args.mark c.args.text.now c.bytes.at (omega arith) c.bytes.invariant
