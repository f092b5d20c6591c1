-- The refusals in order, the message, and then the node's entry.
use Rattle.std.proofs.Common.{Ok, sym, arith, refl}
use Rattle.fuse_wire.specs.Request.{link}
use Rattle.fuse_gate.specs.Replies.{reply_of}
use Rattle.fuse_gate.proofs.Asking.{ok_map, err_map, on_err}
use Rattle.fuse_gate.proofs.Standings.{node_below, none_there, some_there}
use Rattle.fuse_gate.proofs.Serving.{refused_before}
use Rattle.fuse_gate.proofs.LookingUp.{lookup_unknown, lookup_fault, lookup_full}
use Rattle.fuse_gate.proofs.Linking.{link_unknown, link_refuses, link_tells, link_served, link_part}
use Rattle.fuse_gate.proofs.Linking.{link_done, link_refused, may_enter, again_part, again_served}
use Rattle.fuse_gate.proofs.gate.Gate.link.Goals as goal

pub returns-then-not-contains_key-clause-served : goal.returns-then-not-contains_key-clause-served
returns-then-not-contains_key-clause-served g c =
    refused_before c.requires (g.met.N.Nine.good c.args.nine.now) c.args.node
    (link c.args.old c.args.name.now) _ (link_unknown (g.N.Nine.at c.args.nine.now) c.requires c.args.node c.args.old
    c.args.name.now (none_there _ (sym c.if-not-contains_key.ensures)))

pub returns-then-not-contains_key-2-clause-served : goal.returns-then-not-contains_key-2-clause-served
returns-then-not-contains_key-2-clause-served g c =
    let l = some_there _ (sym c.if-not-contains_key.ensures) in
    refused_before c.requires (g.met.N.Nine.good c.args.nine.now) c.args.node
    (link c.args.old c.args.name.now) _ (link_refuses (g.N.Nine.at c.args.nine.now) c.requires c.args.node c.args.old c.args.name.now
    l.0 l.1 _ (lookup_unknown (g.N.Nine.at c.args.nine.now) c.requires
    (g.met.N.Nine.good c.args.nine.now) c.args.node c.args.name.now
    (none_there _ (sym c.if-not-contains_key-2.ensures))))

pub returns-in-Some-clause-served : goal.returns-in-Some-clause-served
returns-in-Some-clause-served g c =
    let l = some_there _ (sym c.if-not-contains_key.ensures) in
    let k = some_there _ (sym c.if-not-contains_key-2.ensures) in
    refused_before c.requires (g.met.N.Nine.good c.args.nine.now) c.args.node
    (link c.args.old c.args.name.now) _ (link_refuses (g.N.Nine.at c.args.nine.now) c.requires c.args.node c.args.old c.args.name.now
    l.0 l.1 _ (lookup_fault (g.N.Nine.at c.args.nine.now) c.requires
    (g.met.N.Nine.good c.args.nine.now) c.args.node c.args.name.now k.0 k.1
    c.in-Some.errno c.in-Some.ensures))

pub returns-then-is_full-clause-served : goal.returns-then-is_full-clause-served
returns-then-is_full-clause-served g c =
    let l = some_there _ (sym c.if-not-contains_key.ensures) in
    let k = some_there _ (sym c.if-not-contains_key-2.ensures) in
    refused_before c.requires (g.met.N.Nine.good c.args.nine.now) c.args.node
    (link c.args.old c.args.name.now) _ (link_refuses (g.N.Nine.at c.args.nine.now) c.requires c.args.node c.args.old c.args.name.now
    l.0 l.1 _ (lookup_full (g.N.Nine.at c.args.nine.now) c.requires
    (g.met.N.Nine.good c.args.nine.now) c.args.node c.args.name.now k.0 k.1
    c.in_default.ensures c.if-is_full.ensures.full))

pub overflow_cast-node : goal.overflow_cast-node
overflow_cast-node g c =
    let k = some_there _ (sym c.if-not-contains_key-2.ensures) in
    let low = node_below c.requires c.args.node k.0 k.1 in
    omega arith

pub overflow_cast-old : goal.overflow_cast-old
overflow_cast-old g c =
    let l = some_there _ (sym c.if-not-contains_key.ensures) in
    let low = node_below c.requires c.args.old l.0 l.1 in
    omega arith

pub returns-in_err-told-clause-unfinished : goal.returns-in_err-told-clause-unfinished
returns-in_err-told-clause-unfinished g c =
    let l = some_there _ (sym c.if-not-contains_key.ensures) in
    let k = some_there _ (sym c.if-not-contains_key-2.ensures) in
    on_err c.from_residual.result _ (link_part (g.N.Nine.at c.args.nine.now) c.requires (g.met.N.Nine.good c.args.nine.now)
    c.args.node c.args.old c.args.name.now l.0 l.1 k.0 k.1 c.in_default.ensures
    c.if-is_full.ensures.full _ (link_tells (g.N.Nine.at c.args.nine.now) c.requires (g.met.N.Nine.good c.args.nine.now)
    c.args.node c.args.old c.args.name.now l.0 l.1 k.0 k.1 c.in_default.ensures
    c.if-is_full.ensures.full) _
    c.in_err-told.ensures.unfinished)

pub enter_again-requires : goal.enter_again-requires
enter_again-requires g c =
    let l = some_there _ (sym c.if-not-contains_key.ensures) in
    let k = some_there _ (sym c.if-not-contains_key-2.ensures) in
    let w = link_done (g.N.Nine.at c.args.nine.now) c.requires (g.met.N.Nine.good c.args.nine.now)
    c.args.node c.args.old c.args.name.now l.0 l.1 k.0 k.1 c.in_default.ensures
    c.if-is_full.ensures.full _ (link_tells (g.N.Nine.at c.args.nine.now) c.requires (g.met.N.Nine.good c.args.nine.now)
    c.args.node c.args.old c.args.name.now l.0 l.1 k.0 k.1 c.in_default.ensures
    c.if-is_full.ensures.full) _
    (g.N.Nine.at c.link.new.nine) c.count_message.ensures
    c.in_ok-told.ensures.answer.asked c.in_ok-told.ensures.kept.rises _
    (Ok c.in-Ok.field-0) c.in-Ok.field-0 c.in-Ok.is refl c.in_ok-told.ensures.answer.asks in
    may_enter (g.N.Nine.at c.args.nine.now) c.requires (g.met.N.Nine.good c.args.nine.now)
    c.args.node c.args.old c.args.name.now l.0 l.1 k.0 k.1 c.in_default.ensures
    c.if-is_full.ensures.full w.0 w.1 _
    (g.N.Nine.at c.link.new.nine) c.count_message.ensures
    c.in_ok-told.ensures.answer.asked c.in_ok-told.ensures.kept.rises w.2

pub returns-in-Ok-clause-served : goal.returns-in-Ok-clause-served
returns-in-Ok-clause-served g c =
    let l = some_there _ (sym c.if-not-contains_key.ensures) in
    let k = some_there _ (sym c.if-not-contains_key-2.ensures) in
    let w = link_done (g.N.Nine.at c.args.nine.now) c.requires (g.met.N.Nine.good c.args.nine.now)
    c.args.node c.args.old c.args.name.now l.0 l.1 k.0 k.1 c.in_default.ensures
    c.if-is_full.ensures.full _ (link_tells (g.N.Nine.at c.args.nine.now) c.requires (g.met.N.Nine.good c.args.nine.now)
    c.args.node c.args.old c.args.name.now l.0 l.1 k.0 k.1 c.in_default.ensures
    c.if-is_full.ensures.full) _
    (g.N.Nine.at c.link.new.nine) c.count_message.ensures
    c.in_ok-told.ensures.answer.asked c.in_ok-told.ensures.kept.rises _
    (Ok c.in-Ok.field-0) c.in-Ok.field-0 c.in-Ok.is refl c.in_ok-told.ensures.answer.asks in
    ok_map c.enter_again.result _ _
    (λ r served. link_served (g.N.Nine.at c.args.nine.now) c.requires (g.met.N.Nine.good c.args.nine.now)
    c.args.node c.args.old c.args.name.now l.0 l.1 k.0 k.1 c.in_default.ensures
    c.if-is_full.ensures.full _ (reply_of r)
    (again_served (g.N.Nine.at c.args.nine.now) c.requires (g.met.N.Nine.good c.args.nine.now)
    c.args.node c.args.old c.args.name.now l.0 l.1 k.0 k.1 c.in_default.ensures
    c.if-is_full.ensures.full w.0 w.1 _
    (g.N.Nine.at c.link.new.nine) c.count_message.ensures
    c.in_ok-told.ensures.answer.asked c.in_ok-told.ensures.kept.rises w.2 _ (reply_of r) served))
    c.enter_again.ensures.served

pub returns-in-Ok-clause-unfinished : goal.returns-in-Ok-clause-unfinished
returns-in-Ok-clause-unfinished g c =
    let l = some_there _ (sym c.if-not-contains_key.ensures) in
    let k = some_there _ (sym c.if-not-contains_key-2.ensures) in
    let w = link_done (g.N.Nine.at c.args.nine.now) c.requires (g.met.N.Nine.good c.args.nine.now)
    c.args.node c.args.old c.args.name.now l.0 l.1 k.0 k.1 c.in_default.ensures
    c.if-is_full.ensures.full _ (link_tells (g.N.Nine.at c.args.nine.now) c.requires (g.met.N.Nine.good c.args.nine.now)
    c.args.node c.args.old c.args.name.now l.0 l.1 k.0 k.1 c.in_default.ensures
    c.if-is_full.ensures.full) _
    (g.N.Nine.at c.link.new.nine) c.count_message.ensures
    c.in_ok-told.ensures.answer.asked c.in_ok-told.ensures.kept.rises _
    (Ok c.in-Ok.field-0) c.in-Ok.field-0 c.in-Ok.is refl c.in_ok-told.ensures.answer.asks in
    err_map c.enter_again.result _ _
    (λ same. again_part (g.N.Nine.at c.args.nine.now) c.requires (g.met.N.Nine.good c.args.nine.now)
    c.args.node c.args.old c.args.name.now l.0 l.1 k.0 k.1 c.in_default.ensures
    c.if-is_full.ensures.full w.0 w.1 _
    (g.N.Nine.at c.link.new.nine) c.count_message.ensures
    c.in_ok-told.ensures.answer.asked c.in_ok-told.ensures.kept.rises w.2 _ same)
    c.enter_again.ensures.unfinished

pub returns-in-Err-clause-served : goal.returns-in-Err-clause-served
returns-in-Err-clause-served g c =
    let l = some_there _ (sym c.if-not-contains_key.ensures) in
    let k = some_there _ (sym c.if-not-contains_key-2.ensures) in
    link_refused (g.N.Nine.at c.args.nine.now) c.requires (g.met.N.Nine.good c.args.nine.now)
    c.args.node c.args.old c.args.name.now l.0 l.1 k.0 k.1 c.in_default.ensures
    c.if-is_full.ensures.full _ (link_tells (g.N.Nine.at c.args.nine.now) c.requires (g.met.N.Nine.good c.args.nine.now)
    c.args.node c.args.old c.args.name.now l.0 l.1 k.0 k.1 c.in_default.ensures
    c.if-is_full.ensures.full) _
    (g.N.Nine.at c.link.new.nine) c.count_message.ensures
    c.in_ok-told.ensures.answer.asked c.in_ok-told.ensures.kept.rises _
    c.in-Err.errno c.in-Err.is c.in_ok-told.ensures.answer.asks
