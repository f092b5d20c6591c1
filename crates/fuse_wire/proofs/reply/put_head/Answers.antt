-- The length and the error stand before the request's number.
use Rattle.std.proofs.Common.{◌∙◌, ap, ◌++◌, ◌∷◌, [], ◌+◌, ℕ}
use Rattle.fuse_wire.specs.Reply.{reply_head, u32s}
use Rattle.fuse_wire.proofs.Appending.{joined}
use Rattle.fuse_wire.proofs.reply.put_head.Goals as goal

pub returns-clause-items : goal.returns-clause-items
unfolding reply_head
returns-clause-items c =
    joined _ _ _ _ _ (c.put_u32s.ensures.items
    ∙ ap (λ (e : ℕ). c.args.out.now.items ++ u32s ((16 + c.args.size) ∷ e ∷ []))
    c.negated.ensures) c.put_u64s.ensures.items
