-- What is written over the filled bytes is what the definition gives.
use Rattle.std.proofs.Common.{rules}
use Rattle.tree_host.proofs.Writing.{put_back}
use Rattle.tree_host.proofs.node.changes.write_over.Goals as goal

pub returns-clause-ok : goal.returns-clause-ok
returns-clause-ok c =
    put_back c.lengthen.new.bytes.len c.args.offset c.args.new.now c.args.bytes.now.items
    c.lengthen.new.bytes.items c.deref_mut.result.now c.put_at.new.bytes
    c.in_ok-lengthen.ensures.ok (search rules) (search rules) c.put_at.ensures
