-- A first hold is let go again where the record finds no memory.
use Rattle.std.proofs.Common.{ap, ◌∙◌, arith}
use Rattle.tree_host.specs.Holds.{Holds, hold_count, held_less}
use Rattle.tree_host.proofs.Held.{hold_count-more, less_more}
use Rattle.tree_host.proofs.nodes.creations.create_node.Goals as goal

pub lower-requires : goal.lower-requires
lower-requires c =
    let count = ap (λ (h : Holds). hold_count h c.args.new.ino) c.in_ok-hold.ensures.ok
    ∙ hold_count-more c.args.holds.now c.args.new.ino in
    omega (arith, count)

pub returns-in-Err-clause-let_go : goal.returns-in-Err-clause-let_go
returns-in-Err-clause-let_go c =
    c.lower.ensures ∙ ap (λ (h : Holds). held_less h c.args.new.ino) c.in_ok-hold.ensures.ok
    ∙ less_more c.args.holds.now c.args.new.ino c.requires.unheld
