-- The numbers so far stand behind what was there, and there is room for the rest.
use Rattle.std.proofs.Common.{◌≡◌, ◌+◌, ◌*◌, ◌≤◌, ◌++◌, take, vec_len, vec_capacity}
use Rattle.fuse_wire.specs.Reply.{u32s}
use Rattle.fuse_wire.proofs.reply.put_u32s.Given as goal

abbrev pub invariant-loop-number : goal.invariant-loop-number
invariant-loop-number l = record {
  items : l.out.items ≡ l.initial.out.items ++ u32s (take l.number-index l.numbers);
  len : vec_len l.out ≡ vec_len l.initial.out + 4 * l.number-index;
  capacity : vec_capacity l.initial.out ≤ vec_capacity l.out;
}
