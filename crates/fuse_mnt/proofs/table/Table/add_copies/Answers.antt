-- A row that is below the source is copied.
use Rattle.std.proofs.Common.{◌∙◌, ◌<◌, length, sym, ap, arith}
use Rattle.libmount.specs.MountTables.{MountTable, is_below, moved_row}
use Rattle.fuse_mnt.proofs.CopyingLemmas.{copied_none, copied_one, element_same, front_same}
use Rattle.fuse_mnt.proofs.CopyingLemmas.{grown_more}
use Rattle.fuse_mnt.proofs.table.Table.add_copies.Goals.{then-is_below+in_ok-row+in_ok-add_row}
use Rattle.fuse_mnt.proofs.table.Table.add_copies.Goals.{else-is_below}
use Rattle.fuse_mnt.proofs.table.Table.add_copies.Goals as goal

pub loop-at-preserved : goal.loop-at-preserved
loop-at-preserved c =
    let i = c.loop-at.invariant in
    let rows = ap (λ (t : MountTable). t.rows) c.self.view_is in
    let found = element_same c.self.inside.rows.items c.args.self.now c.loop-at.self c.args.count
    c.loop-at.at c.index.result.now c.loop-at-test.true i.grown rows c.index.ensures in
    let there : c.loop-at.at < length c.args.self.now.rows =
    omega (arith, c.loop-at-test.true, c.requires.rows) in
    let test = ap (is_below c.args.source.now) (sym found) ∙ sym c.is_below.ensures in
    elim c.if-is_below.branch [
      | then-is_below+in_ok-row+in_ok-add_row w ↦ record {
        now = copied_one c.args.source.now c.args.target.now c.args.self.now c.loop-at.self
            c.args.count c.loop-at.at there i.now _ _ (test ∙ w.if-is_below.true)
            (w.in_ok-row.ensures ∙ ap (moved_row c.args.source.now c.args.target.now)
            (front_same c.loop-at.self.rows c.args.self.now.rows c.args.count c.loop-at.at
            c.loop-at-test.true i.grown.front))
            (w.self-is ∙ w.in_ok-add_row.ensures.added);
        grown = grown_more w.in_ok-row.row _ _ _ _ i.grown (w.self-is ∙ w.in_ok-add_row.ensures.added);
        next =
            let one = ap (λ (t : MountTable). t.next_id) (w.self-is ∙ w.in_ok-add_row.ensures.added) in
            omega (arith, i.next, one);
      }
      | else-is_below w ↦ record {
        now = w.self-is ∙ copied_none c.args.source.now c.args.target.now c.args.self.now
            c.loop-at.self c.args.count c.loop-at.at there i.now (test ∙ w.if-is_below.false);
        grown = rw w.self-is i.grown;
        next = rw w.self-is (omega (arith, i.next));
      }
    ]
