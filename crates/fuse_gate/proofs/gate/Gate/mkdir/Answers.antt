-- The refusals in order, the message, and then the look-up.
use Rattle.std.proofs.Common.{Ok, sym, ap, arith, refl, inl}
use Rattle.fuse_wire.specs.Request.{mkdir}
use Rattle.p9_client.specs.Views.{qid_answer}
use Rattle.fuse_gate.specs.Desks.{entry_told}
use Rattle.fuse_gate.specs.Steps.{ServesRequest}
use Rattle.fuse_gate.proofs.Desks.{told_ok, told_err}
use Rattle.fuse_gate.proofs.Asking.{ok_map, err_map, on_err}
use Rattle.fuse_gate.proofs.Standings.{node_below, none_there, some_there}
use Rattle.fuse_gate.proofs.Serving.{refused_before}
use Rattle.fuse_gate.proofs.LookingUp.{lookup_unknown, lookup_fault, lookup_full}
use Rattle.fuse_gate.proofs.MakingDirectories.{mkdir_tells, mkdir_served, mkdir_part, mkdir_made}
use Rattle.fuse_gate.proofs.MakingDirectories.{mkdir_refused, stands_at, looked_part}
use Rattle.fuse_gate.proofs.MakingDirectories.{looked_up_served}
use Rattle.fuse_gate.proofs.gate.Gate.mkdir.Goals as goal

pub returns-then-not-contains_key-clause-served : goal.returns-then-not-contains_key-clause-served
returns-then-not-contains_key-clause-served g c =
    refused_before c.requires (g.met.N.Nine.good c.args.nine.now) c.args.node
    (mkdir c.args.mode c.args.name.now) _ (lookup_unknown (g.N.Nine.at c.args.nine.now)
    c.requires (g.met.N.Nine.good c.args.nine.now) c.args.node c.args.name.now
    (none_there _ (sym c.if-not-contains_key.ensures)))

pub returns-in-Some-clause-served : goal.returns-in-Some-clause-served
returns-in-Some-clause-served g c =
    let k = some_there _ (sym c.if-not-contains_key.ensures) in
    refused_before c.requires (g.met.N.Nine.good c.args.nine.now) c.args.node
    (mkdir c.args.mode c.args.name.now) _ (lookup_fault (g.N.Nine.at c.args.nine.now)
    c.requires (g.met.N.Nine.good c.args.nine.now) c.args.node c.args.name.now k.0 k.1
    c.in-Some.errno c.in-Some.ensures)

pub returns-then-is_full-clause-served : goal.returns-then-is_full-clause-served
returns-then-is_full-clause-served g c =
    let k = some_there _ (sym c.if-not-contains_key.ensures) in
    refused_before c.requires (g.met.N.Nine.good c.args.nine.now) c.args.node
    (mkdir c.args.mode c.args.name.now) _ (lookup_full (g.N.Nine.at c.args.nine.now)
    c.requires (g.met.N.Nine.good c.args.nine.now) c.args.node c.args.name.now k.0 k.1
    c.in_default.ensures c.if-is_full.ensures.full)

pub overflow_cast-node : goal.overflow_cast-node
overflow_cast-node g c =
    let k = some_there _ (sym c.if-not-contains_key.ensures) in
    let low = node_below c.requires c.args.node k.0 k.1 in
    omega arith

pub returns-in_err-told-clause-unfinished : goal.returns-in_err-told-clause-unfinished
returns-in_err-told-clause-unfinished g c =
    let k = some_there _ (sym c.if-not-contains_key.ensures) in
    on_err c.from_residual.result _ (mkdir_part (g.N.Nine.at c.args.nine.now) c.requires
    (g.met.N.Nine.good c.args.nine.now) c.args.node c.args.mode c.args.name.now k.0 k.1 c.in_default.ensures
    c.if-is_full.ensures.full _
    (mkdir_tells (g.N.Nine.at c.args.nine.now) c.requires
    (g.met.N.Nine.good c.args.nine.now) c.args.node c.args.mode c.args.name.now k.0 k.1 c.in_default.ensures
    c.if-is_full.ensures.full) _
    c.in_err-told.ensures.unfinished)

pub lookup-requires : goal.lookup-requires
lookup-requires g c =
    let k = some_there _ (sym c.if-not-contains_key.ensures) in
    let w = mkdir_made (g.N.Nine.at c.args.nine.now) c.requires
    (g.met.N.Nine.good c.args.nine.now) c.args.node c.args.mode c.args.name.now k.0 k.1 c.in_default.ensures
    c.if-is_full.ensures.full _
    (mkdir_tells (g.N.Nine.at c.args.nine.now) c.requires
    (g.met.N.Nine.good c.args.nine.now) c.args.node c.args.mode c.args.name.now k.0 k.1 c.in_default.ensures
    c.if-is_full.ensures.full) _
    (g.N.Nine.at c.mkdir.new.nine) c.count_message.ensures
    c.in_ok-told.ensures.answer.asked c.in_ok-told.ensures.kept.rises _
    (qid_answer (Ok c.in-Ok.field-0)) _ (ap qid_answer c.in-Ok.is) refl
    c.in_ok-told.ensures.answer.asks in
    stands_at (g.N.Nine.at c.args.nine.now) c.requires (g.met.N.Nine.good c.args.nine.now)
    c.args.node c.args.mode c.args.name.now k.0 k.1 c.in_default.ensures
    c.if-is_full.ensures.full w.0 w.1 w.2 _
    (g.N.Nine.at c.mkdir.new.nine) c.count_message.ensures
    c.in_ok-told.ensures.answer.asked c.in_ok-told.ensures.kept.rises w.3

pub returns-in-Ok-clause-served : goal.returns-in-Ok-clause-served
returns-in-Ok-clause-served g c =
    let k = some_there _ (sym c.if-not-contains_key.ensures) in
    let w = mkdir_made (g.N.Nine.at c.args.nine.now) c.requires
    (g.met.N.Nine.good c.args.nine.now) c.args.node c.args.mode c.args.name.now k.0 k.1 c.in_default.ensures
    c.if-is_full.ensures.full _
    (mkdir_tells (g.N.Nine.at c.args.nine.now) c.requires
    (g.met.N.Nine.good c.args.nine.now) c.args.node c.args.mode c.args.name.now k.0 k.1 c.in_default.ensures
    c.if-is_full.ensures.full) _
    (g.N.Nine.at c.mkdir.new.nine) c.count_message.ensures
    c.in_ok-told.ensures.answer.asked c.in_ok-told.ensures.kept.rises _
    (qid_answer (Ok c.in-Ok.field-0)) _ (ap qid_answer c.in-Ok.is) refl
    c.in_ok-told.ensures.answer.asks in
    told_ok (entry_told c.lookup.result) c.entry_reply.result c.entry_reply.ensures
    (λ reply. ServesRequest c.args.node (mkdir c.args.mode c.args.name.now)
    (c.args.self.now, g.N.Nine.at c.args.nine.now)
    (c.lookup.new.self, g.N.Nine.at c.lookup.new.nine) reply)
    (ok_map (entry_told c.lookup.result) _ _
    (λ r served. mkdir_served (g.N.Nine.at c.args.nine.now) c.requires
    (g.met.N.Nine.good c.args.nine.now) c.args.node c.args.mode c.args.name.now k.0 k.1 c.in_default.ensures
    c.if-is_full.ensures.full _ r
    (looked_up_served (g.N.Nine.at c.args.nine.now) c.requires
    (g.met.N.Nine.good c.args.nine.now) c.args.node c.args.mode c.args.name.now k.0 k.1 c.in_default.ensures
    c.if-is_full.ensures.full w.0 w.1 w.2 _
    (g.N.Nine.at c.mkdir.new.nine) c.count_message.ensures
    c.in_ok-told.ensures.answer.asked c.in_ok-told.ensures.kept.rises w.3 _ r served))
    c.lookup.ensures.served)

pub returns-in-Ok-clause-unfinished : goal.returns-in-Ok-clause-unfinished
returns-in-Ok-clause-unfinished g c =
    let k = some_there _ (sym c.if-not-contains_key.ensures) in
    let w = mkdir_made (g.N.Nine.at c.args.nine.now) c.requires
    (g.met.N.Nine.good c.args.nine.now) c.args.node c.args.mode c.args.name.now k.0 k.1 c.in_default.ensures
    c.if-is_full.ensures.full _
    (mkdir_tells (g.N.Nine.at c.args.nine.now) c.requires
    (g.met.N.Nine.good c.args.nine.now) c.args.node c.args.mode c.args.name.now k.0 k.1 c.in_default.ensures
    c.if-is_full.ensures.full) _
    (g.N.Nine.at c.mkdir.new.nine) c.count_message.ensures
    c.in_ok-told.ensures.answer.asked c.in_ok-told.ensures.kept.rises _
    (qid_answer (Ok c.in-Ok.field-0)) _ (ap qid_answer c.in-Ok.is) refl
    c.in_ok-told.ensures.answer.asks in
    told_err (entry_told c.lookup.result) c.entry_reply.result c.entry_reply.ensures _
    (err_map (entry_told c.lookup.result) _ _
    (λ same. looked_part (g.N.Nine.at c.args.nine.now) c.requires
    (g.met.N.Nine.good c.args.nine.now) c.args.node c.args.mode c.args.name.now k.0 k.1 c.in_default.ensures
    c.if-is_full.ensures.full w.0 w.1 w.2 _
    (g.N.Nine.at c.mkdir.new.nine) c.count_message.ensures
    c.in_ok-told.ensures.answer.asked c.in_ok-told.ensures.kept.rises w.3 _ (inl (inl same)))
    c.lookup.ensures.unfinished)

pub returns-in-Err-clause-served : goal.returns-in-Err-clause-served
returns-in-Err-clause-served g c =
    let k = some_there _ (sym c.if-not-contains_key.ensures) in
    mkdir_refused (g.N.Nine.at c.args.nine.now) c.requires
    (g.met.N.Nine.good c.args.nine.now) c.args.node c.args.mode c.args.name.now k.0 k.1 c.in_default.ensures
    c.if-is_full.ensures.full _
    (mkdir_tells (g.N.Nine.at c.args.nine.now) c.requires
    (g.met.N.Nine.good c.args.nine.now) c.args.node c.args.mode c.args.name.now k.0 k.1 c.in_default.ensures
    c.if-is_full.ensures.full) _
    (g.N.Nine.at c.mkdir.new.nine) c.count_message.ensures
    c.in_ok-told.ensures.answer.asked c.in_ok-told.ensures.kept.rises _
    c.in-Err.errno (ap qid_answer c.in-Err.is) c.in_ok-told.ensures.answer.asks
