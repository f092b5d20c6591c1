-- The rows that stay, and behind them those that go.
use Rattle.std.proofs.Common.{arith}
use Rattle.fuse_mnt.proofs.MovingLemmas.{parent_set, relocated_whole}
use Rattle.fuse_mnt.proofs.moving.relocated.Goals as goal

pub returns : goal.returns
returns c = relocated_whole c.args.source.now c.args.target.now c.args.top _ c.args.rows.now _ _ _ _
    _ c.in_ok-ids.ensures (rw c.deref.ensures.value at c.in_ok-all.ensures)
    (rw c.deref-2.ensures.value at c.in_ok-moved.ensures)
    (rw c.deref-3.ensures.value at c.cover_id.ensures)
    (parent_set c.in_ok-moved.moved.len c.cover_id.result _ c.in_ok-moved.moved.items
    (rw c.deref_mut.ensures.value at c.set_parent.ensures)
    (omega (arith, c.in_ok-moved.moved.ok.0))) c.in_ok-append_rows.ensures
