-- A frame out of turn or with a body outside its grammar is refused; else its request is served.
use Rattle.std.proofs.Common.{true, false, ap, ◌∙◌}
use Rattle.fuse_wire.specs.Body.{plain}
use Rattle.fuse_wire.specs.declared.head.Head.{Head}
use Rattle.fuse_gate.proofs.Asking.{ok_map, err_map}
use Rattle.fuse_gate.proofs.Stepping.{asked_by, refused_frame, served_frame, part_of_frame}
use Rattle.fuse_gate.proofs.gate.Gate.serve_frame.Goals as goal

pub returns-then-not-is_in_turn-clause-served : goal.returns-then-not-is_in_turn-clause-served
returns-then-not-is_in_turn-clause-served g c =
    refused_frame (g.N.Nine.at c.args.nine.now) c.requires.stands
    (g.met.N.Nine.good c.args.nine.now) c.args.frame.now _
    (asked_by c.args.self.now.phase c.args.head c.args.frame.now c.requires.read false
    c.if-not-is_in_turn.ensures)

pub returns-in-Err-clause-served : goal.returns-in-Err-clause-served
returns-in-Err-clause-served g c =
    refused_frame (g.N.Nine.at c.args.nine.now) c.requires.stands
    (g.met.N.Nine.good c.args.nine.now) c.args.frame.now _
    (asked_by c.args.self.now.phase c.args.head c.args.frame.now c.requires.read true
    c.if-not-is_in_turn.ensures ∙ c.in-Err.ensures)

pub returns-in-Ok-clause-served : goal.returns-in-Ok-clause-served
returns-in-Ok-clause-served g c =
    ok_map c.serve.result _ _
    (λ r served. served_frame (g.N.Nine.at c.args.nine.now) c.requires.stands
    (g.met.N.Nine.good c.args.nine.now) c.args.frame.now c.args.head.nodeid
    (plain c.in-Ok.request.body)
    (asked_by c.args.self.now.phase c.args.head c.args.frame.now c.requires.read true
    c.if-not-is_in_turn.ensures ∙ c.in-Ok.ensures.asks)
    (ap (λ (h : Head). h.nodeid) c.requires.read) _ _ served)
    c.serve.ensures.served

pub returns-in-Ok-clause-unfinished : goal.returns-in-Ok-clause-unfinished
returns-in-Ok-clause-unfinished g c =
    err_map c.serve.result _ _
    (λ part. part_of_frame (g.N.Nine.at c.args.nine.now) c.requires.stands
    (g.met.N.Nine.good c.args.nine.now) c.args.frame.now c.args.head.nodeid
    (plain c.in-Ok.request.body)
    (asked_by c.args.self.now.phase c.args.head c.args.frame.now c.requires.read true
    c.if-not-is_in_turn.ensures ∙ c.in-Ok.ensures.asks)
    (ap (λ (h : Head). h.nodeid) c.requires.read) (g.N.Nine.at c.serve.new.nine) part)
    c.serve.ensures.unfinished
