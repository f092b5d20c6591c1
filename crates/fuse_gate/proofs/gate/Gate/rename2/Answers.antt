-- No flags are taken; without them it is RENAME.
use Rattle.std.proofs.Common.{ℕ, IfOk, OnErr, sym, subst, ne_eqb}
use Rattle.fuse_wire.specs.Request.{rename2}
use Rattle.fuse_gate.specs.Steps.{ServesRequest, LeavesPartOf}
use Rattle.fuse_gate.specs.Replies.{reply_of}
use Rattle.fuse_gate.proofs.Asking.{ok_map, err_map}
use Rattle.fuse_gate.proofs.Serving.{refused_before}
use Rattle.fuse_gate.proofs.NameChanges.{rename2_flagged, rename2_served, rename2_part}
use Rattle.fuse_gate.proofs.gate.Gate.rename2.Goals as goal

pub returns-then-flags-ne0-clause-served : goal.returns-then-flags-ne0-clause-served
returns-then-flags-ne0-clause-served g c =
    refused_before c.requires (g.met.N.Nine.good c.args.nine.now) c.args.node
    (rename2 c.args.newdir c.args.flags c.args.old.now c.args.new.now) _
    (rename2_flagged (g.N.Nine.at c.args.nine.now) c.requires c.args.node
    c.args.newdir c.args.old.now c.args.new.now c.args.flags
    (ne_eqb c.args.flags 0 c.if-flags-ne0.true))

pub returns-clause-served : goal.returns-clause-served
returns-clause-served g c =
    subst (λ (flags : ℕ). IfOk c.rename.result (λ reply. ServesRequest c.args.node
    (rename2 c.args.newdir flags c.args.old.now c.args.new.now)
    (c.args.self.now, g.N.Nine.at c.args.nine.now)
    (c.rename.new.self, g.N.Nine.at c.rename.new.nine) (reply_of reply)))
    (sym c.if-flags-ne0.false)
    (ok_map c.rename.result _ _
    (λ r served. rename2_served (g.N.Nine.at c.args.nine.now) c.requires c.args.node
    c.args.newdir c.args.old.now c.args.new.now
    (c.rename.new.self, g.N.Nine.at c.rename.new.nine) (reply_of r) served)
    c.rename.ensures.served)

pub returns-clause-unfinished : goal.returns-clause-unfinished
returns-clause-unfinished g c =
    subst (λ (flags : ℕ). OnErr c.rename.result (LeavesPartOf c.args.node
    (rename2 c.args.newdir flags c.args.old.now c.args.new.now)
    (c.args.self.now, g.N.Nine.at c.args.nine.now) (g.N.Nine.at c.rename.new.nine)))
    (sym c.if-flags-ne0.false)
    (err_map c.rename.result _ _
    (λ part. rename2_part (g.N.Nine.at c.args.nine.now) c.requires c.args.node
    c.args.newdir c.args.old.now c.args.new.now (g.N.Nine.at c.rename.new.nine) part)
    c.rename.ensures.unfinished)
