-- Each turn puts the next number behind those before it.
use Rattle.std.proofs.Common.{ap, ◌∙◌, ◌++◌, List, ℕ, sym, append-nil, arith}
use Rattle.fuse_wire.specs.Reply.{u32s}
use Rattle.fuse_wire.proofs.Appending.{one_more}
use Rattle.std.specs.Int.{w32, to_le_bytes}
use Rattle.fuse_wire.proofs.reply.put_u32s.Goals as goal

pub loop-number-init : goal.loop-number-init
unfolding u32s
loop-number-init c = record {
  items = sym (append-nil c.args.out.now.items);
  len =
      omega arith;
  capacity = omega arith;
}

pub loop-number-preserved : goal.loop-number-preserved
unfolding u32s
loop-number-preserved c = record {
  items = one_more (to_le_bytes w32) c.args.out.now.items _ _ c.args.numbers.now
      c.loop-number.number-index c.loop-number-test.true c.loop-number.invariant.items
      (c.put.ensures.items ∙ ap (λ (l : List ℕ). c.loop-number.out.items ++ l)
      c.to_le_bytes.ensures);
  len = omega arith;
  capacity = omega arith;
}
