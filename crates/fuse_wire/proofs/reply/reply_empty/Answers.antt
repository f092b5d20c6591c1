-- The head alone is the reply.
use Rattle.std.proofs.Common.{◌∙◌, ap, ◌++◌, List, ℕ, sym, append-nil}
use Rattle.fuse_wire.specs.Reply.{reply, reply_head}
use Rattle.fuse_wire.proofs.reply.reply_empty.Goals as goal

pub returns : goal.returns
unfolding reply
returns c = c.put_head.ensures.items ∙ ap (λ (l : List ℕ). c.args.out.now.items ++ l)
    (sym (append-nil (reply_head c.args.unique.0 0 0)))
