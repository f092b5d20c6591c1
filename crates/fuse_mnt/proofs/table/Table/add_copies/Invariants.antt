use Rattle.std.proofs.Common.{◌≡◌, ◌≤◌, ◌+◌, take}
use Rattle.std.specs.Prelude.{filter}
use Rattle.std.specs.List.{fold}
use Rattle.libmount.specs.MountTables.{copy_row, is_below}
use Rattle.fuse_mnt.specs.Tables.{IsGrown}
use Rattle.fuse_mnt.proofs.table.Table.add_copies.Given as goal

abbrev pub invariant-loop-at : goal.invariant-loop-at
invariant-loop-at l = record {
  now : l.self ≡ fold (copy_row l.source l.target) l.initial.self
      (filter (is_below l.source) (take l.at l.initial.self.rows));
  grown : IsGrown l.count l.initial.self l.self;
  next : l.self.next_id ≤ l.initial.self.next_id + l.at;
}
