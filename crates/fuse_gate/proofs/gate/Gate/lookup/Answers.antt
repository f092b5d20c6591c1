-- The refusals in order, and then the walk and what it leads to.
use Rattle.std.proofs.Common.{sym, ap, ◌∙◌, arith}
use Rattle.p9_wire.specs.Qids.{qid_of}
use Rattle.p9_client.specs.Views.{qid_answer}
use Rattle.fid_model.specs.Fids.{closed}
use Rattle.fuse_wire.specs.Request.{lookup}
use Rattle.fuse_gate.specs.Desks.{entry_told}
use Rattle.fuse_gate.proofs.Asking.{fid_tells, tells_as, ok_map, err_map}
use Rattle.fuse_gate.proofs.Standings.{node_fid, node_below, fid_free, fids_below, none_there}
use Rattle.fuse_gate.proofs.Standings.{some_there}
use Rattle.fuse_gate.proofs.Serving.{refused_before}
use Rattle.fuse_gate.proofs.LookingUp.{lookup_unknown, lookup_fault, lookup_full, lookup_fresh}
use Rattle.fuse_gate.proofs.LookingUp.{lookup_entered, lookup_refused, lookup_tree}
use Rattle.fuse_gate.proofs.gate.Gate.lookup.Goals as goal

pub returns-then-not-contains_key-clause-served : goal.returns-then-not-contains_key-clause-served
returns-then-not-contains_key-clause-served g c =
    refused_before c.requires (g.met.N.Nine.good c.args.nine.now) c.args.node
    (lookup c.args.name.now) _ (lookup_unknown (g.N.Nine.at c.args.nine.now) c.requires
    (g.met.N.Nine.good c.args.nine.now) c.args.node c.args.name.now
    (none_there _ (sym c.if-not-contains_key.ensures)))

pub returns-in-Some-clause-served : goal.returns-in-Some-clause-served
returns-in-Some-clause-served g c =
    let k = some_there _ (sym c.if-not-contains_key.ensures) in
    refused_before c.requires (g.met.N.Nine.good c.args.nine.now) c.args.node
    (lookup c.args.name.now) _ (lookup_fault (g.N.Nine.at c.args.nine.now) c.requires
    (g.met.N.Nine.good c.args.nine.now) c.args.node c.args.name.now k.0 k.1 c.in-Some.errno
    c.in-Some.ensures)

pub returns-then-is_full-clause-served : goal.returns-then-is_full-clause-served
returns-then-is_full-clause-served g c =
    let k = some_there _ (sym c.if-not-contains_key.ensures) in
    refused_before c.requires (g.met.N.Nine.good c.args.nine.now) c.args.node
    (lookup c.args.name.now) _ (lookup_full (g.N.Nine.at c.args.nine.now) c.requires
    (g.met.N.Nine.good c.args.nine.now) c.args.node c.args.name.now k.0 k.1 c.in_default.ensures
    c.if-is_full.ensures.full)

pub overflow_cast-node : goal.overflow_cast-node
overflow_cast-node g c = let k = some_there _ (sym c.if-not-contains_key.ensures) in let low =
    node_below c.requires c.args.node k.0 k.1 in omega arith

pub walk_one-requires-clause-fresh : goal.walk_one-requires-clause-fresh
walk_one-requires-clause-fresh g c = fid_free c.requires

pub walk_one-requires-clause-below : goal.walk_one-requires-clause-below
walk_one-requires-clause-below g c = fids_below c.requires (sym c.if-is_full.ensures.full)

pub enter-requires : goal.enter-requires
enter-requires g c =
    let k = some_there _ (sym c.if-not-contains_key.ensures) in
    lookup_fresh (g.N.Nine.at c.args.nine.now) c.requires (g.met.N.Nine.good c.args.nine.now)
    c.args.node c.args.name.now k.0 k.1 c.in_default.ensures c.if-is_full.ensures.full _
    (g.N.Nine.at c.walk_one.new.nine) c.count_message.ensures
    c.in_ok-walked.ensures.answer.asked c.in_ok-walked.ensures.kept.rises
    (qid_of c.in-Ok.qid) (tells_as _ _ _ (g.N.Nine.at c.args.nine.now)
    (g.N.Nine.at c.walk_one.new.nine) (ap qid_answer c.in-Ok.is)
    (fid_tells c.in_ok-walked.ensures.answer (closed k.0.ino)
    (node_fid c.requires c.args.node k.0 k.1)))
    c.if-is_full.ensures.small

pub returns-in-Ok-clause-served : goal.returns-in-Ok-clause-served
returns-in-Ok-clause-served g c =
    let k = some_there _ (sym c.if-not-contains_key.ensures) in
    ok_map (entry_told c.enter.result) _ _
    (λ r served. lookup_entered (g.N.Nine.at c.args.nine.now) c.requires
    (g.met.N.Nine.good c.args.nine.now) c.args.node c.args.name.now k.0 k.1 c.in_default.ensures
    c.if-is_full.ensures.full _ (g.N.Nine.at c.walk_one.new.nine) c.count_message.ensures
    c.in_ok-walked.ensures.answer.asked c.in_ok-walked.ensures.kept.rises
    (qid_of c.in-Ok.qid) (tells_as _ _ _ (g.N.Nine.at c.args.nine.now)
    (g.N.Nine.at c.walk_one.new.nine) (ap qid_answer c.in-Ok.is)
    (fid_tells c.in_ok-walked.ensures.answer (closed k.0.ino)
    (node_fid c.requires c.args.node k.0 k.1))) _ _ served)
    c.enter.ensures.served

pub returns-in-Err-clause-served : goal.returns-in-Err-clause-served
returns-in-Err-clause-served g c =
    let k = some_there _ (sym c.if-not-contains_key.ensures) in
    lookup_refused (g.N.Nine.at c.args.nine.now) c.requires (g.met.N.Nine.good c.args.nine.now)
    c.args.node c.args.name.now k.0 k.1 c.in_default.ensures c.if-is_full.ensures.full _
    (g.N.Nine.at c.walk_one.new.nine) c.count_message.ensures
    c.in_ok-walked.ensures.answer.asked c.in_ok-walked.ensures.kept.rises
    c.in-Err.errno (tells_as _ _ _ (g.N.Nine.at c.args.nine.now) (g.N.Nine.at c.walk_one.new.nine)
    (ap qid_answer c.in-Err.is) (fid_tells c.in_ok-walked.ensures.answer (closed k.0.ino)
    (node_fid c.requires c.args.node k.0 k.1)))

pub returns-in-Ok-clause-unfinished : goal.returns-in-Ok-clause-unfinished
returns-in-Ok-clause-unfinished g c =
    let k = some_there _ (sym c.if-not-contains_key.ensures) in
    err_map (entry_told c.enter.result) _ _
    (λ e. e ∙ lookup_tree (g.N.Nine.at c.args.nine.now) c.requires
    (g.met.N.Nine.good c.args.nine.now) c.args.node c.args.name.now k.0 k.1 c.in_default.ensures
    c.if-is_full.ensures.full _ (g.N.Nine.at c.walk_one.new.nine) c.count_message.ensures
    c.in_ok-walked.ensures.answer.asked c.in_ok-walked.ensures.kept.rises
    (qid_of c.in-Ok.qid) (tells_as _ _ _ (g.N.Nine.at c.args.nine.now)
    (g.N.Nine.at c.walk_one.new.nine) (ap qid_answer c.in-Ok.is)
    (fid_tells c.in_ok-walked.ensures.answer (closed k.0.ino)
    (node_fid c.requires c.args.node k.0 k.1))))
    c.enter.ensures.unfinished
