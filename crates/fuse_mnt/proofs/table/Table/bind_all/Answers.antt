-- Numbers are left for all copies.
use Rattle.std.proofs.Common.{◌≡◌, ◌+◌, ap, arith, length}
use Rattle.libmount.specs.MountTables.{MountTable}
use Rattle.fuse_mnt.proofs.table.Table.bind_all.Goals as goal

pub add_copies-requires-clause-room : goal.add_copies-requires-clause-room
add_copies-requires-clause-room c =
    let next : c.add_bound.new.self.next_id ≡ c.args.self.now.next_id + 1 =
    ap (λ (t : MountTable). t.next_id) c.in_ok-add_bound.ensures.added in
    let count : c.len-count.result ≡ length c.args.self.now.rows = rw (← c.self.view_is)
    (omega (arith, c.len-count.ensures, c.self.inside.rows.ok.0)) in
    omega (arith, next, count, c.requires.room.1)
