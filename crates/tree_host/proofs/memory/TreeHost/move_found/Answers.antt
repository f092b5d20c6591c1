-- What refuses the move, or what it leaves.
use Rattle.std.proofs.Common.{refl, sym, ◌∙◌}
use Rattle.tree_model.specs.Finding.{lookup_of}
use Rattle.std.specs.Result.{result_ok}
use Rattle.tree_host.specs.Holds.{is_held}
use Rattle.tree_host.specs.Kept.{tree_from}
use Rattle.tree_host.proofs.Moving.{told_refused, told_moved}
use Rattle.tree_host.proofs.memory.TreeHost.move_found.Goals as goal

pub returns-in-Some-clause-leaves : goal.returns-in-Some-clause-leaves
returns-in-Some-clause-leaves c =
    let a = c.args in
    let s = a.self.now in
    let t = tree_from s.nodes s.next s.limits s.moment in
    record {
      exactly = (
        told_refused (is_held s.holds) t a.from.dir a.from.name.now a.to.dir a.to.name.now a.ino
            c.found-there.result (result_ok (lookup_of t a.to.dir a.to.name.now))
            c.found-there.ensures (sym c.is_same.ensures ∙ c.if-is_same.false) c.in-Some.errno
            (sym (c.move_refusal.ensures s.moment) ∙ c.in-Some.is),
        refl,
      );
    }

pub move_free-requires-clause-free : goal.move_free-requires-clause-free
move_free-requires-clause-free c = sym (c.move_refusal.ensures c.args.self.now.moment)
    ∙ c.in_default.is

pub returns-clause-leaves : goal.returns-clause-leaves
returns-clause-leaves c =
    let a = c.args in
    let s = a.self.now in
    let t = tree_from s.nodes s.next s.limits s.moment in
    told_moved (is_held s.holds) t a.from.dir a.from.name.now a.to.dir a.to.name.now a.ino
    c.found-there.result (result_ok (lookup_of t a.to.dir a.to.name.now)) c.found-there.ensures
    (sym c.is_same.ensures ∙ c.if-is_same.false)
    (sym (c.move_refusal.ensures s.moment) ∙ c.in_default.is) _ c.move_free.result
    c.move_free.ensures.ok c.move_free.ensures.err
