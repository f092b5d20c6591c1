-- The copy, the file, and then its entry; or the copy goes again.
use Rattle.std.proofs.Common.{ap, arith}
use Rattle.p9_wire.specs.Qids.{qid_of}
use Rattle.p9_client.specs.Views.{qid_answer}
use Rattle.fuse_gate.specs.Replies.{reply_of}
use Rattle.fuse_gate.proofs.Asking.{fid_tells, tells_as, ok_map, err_map, on_err}
use Rattle.fuse_gate.proofs.Standings.{node_fid}
use Rattle.fuse_gate.proofs.Serving.{one_alone, one_more_sent}
use Rattle.fuse_gate.proofs.CreatingFiles.{copy_fresh, copy_below, copy_refused, copy_is, create_part}
use Rattle.fuse_gate.proofs.CreatingFiles.{file_made, may_enter, entry_part, entry_served}
use Rattle.fuse_gate.proofs.CreatingFiles.{fid_stays, create_left, create_refused}
use Rattle.fuse_gate.proofs.gate.Gate.create_in.Goals as goal

pub copy_fid-requires-clause-fresh : goal.copy_fid-requires-clause-fresh
copy_fid-requires-clause-fresh g c =
    copy_fresh (g.N.Nine.at c.args.nine.now) c.args.flags c.args.mode c.requires
    (g.met.N.Nine.good c.args.nine.now)

pub copy_fid-requires-clause-below : goal.copy_fid-requires-clause-below
copy_fid-requires-clause-below g c =
    copy_below (g.N.Nine.at c.args.nine.now) c.args.flags c.args.mode c.requires
    (g.met.N.Nine.good c.args.nine.now)

pub returns-in-Err-clause-served : goal.returns-in-Err-clause-served
returns-in-Err-clause-served g c =
    copy_refused (g.N.Nine.at c.args.nine.now) c.args.flags c.args.mode c.requires
    (g.met.N.Nine.good c.args.nine.now) c.in-Err.errno _
    (g.N.Nine.at c.copy_fid.new.nine) c.count_message.ensures c.in_ok-copied.ensures.answer.asked
    c.in_ok-copied.ensures.kept.rises (tells_as _ _ _ (g.N.Nine.at c.args.nine.now) (g.N.Nine.at c.copy_fid.new.nine) c.in-Err.is
    (fid_tells c.in_ok-copied.ensures.answer _
    (node_fid c.requires.stands c.args.id c.args.node c.requires.known)))

pub returns-in_err-made-clause-unfinished : goal.returns-in_err-made-clause-unfinished
returns-in_err-made-clause-unfinished g c =
    on_err c.from_residual-in_err-made.result _
    (create_part (g.N.Nine.at c.args.nine.now) c.args.flags c.args.mode c.requires
    (g.met.N.Nine.good c.args.nine.now) _ (copy_is (g.N.Nine.at c.args.nine.now) c.args.flags c.args.mode c.requires
    (g.met.N.Nine.good c.args.nine.now) c.in_default.field-0
    (g.N.Nine.at c.copy_fid.new.nine) (tells_as _ _ _ (g.N.Nine.at c.args.nine.now) (g.N.Nine.at c.copy_fid.new.nine) c.in_default.is
    (fid_tells c.in_ok-copied.ensures.answer _
    (node_fid c.requires.stands c.args.id c.args.node c.requires.known)))) _
    c.in_err-made.ensures.unfinished)

pub enter_open-requires : goal.enter_open-requires
enter_open-requires g c =
    let w = file_made (g.N.Nine.at c.args.nine.now) c.args.flags c.args.mode c.requires
    (g.met.N.Nine.good c.args.nine.now) (g.N.Nine.at c.copy_fid.new.nine)
    (g.N.Nine.at c.create.new.nine) (copy_is (g.N.Nine.at c.args.nine.now) c.args.flags c.args.mode c.requires
    (g.met.N.Nine.good c.args.nine.now) c.in_default.field-0
    (g.N.Nine.at c.copy_fid.new.nine) (tells_as _ _ _ (g.N.Nine.at c.args.nine.now) (g.N.Nine.at c.copy_fid.new.nine) c.in_default.is
    (fid_tells c.in_ok-copied.ensures.answer _
    (node_fid c.requires.stands c.args.id c.args.node c.requires.known))))
    (qid_answer c.in_ok-made.made) c.in_ok-made.ensures.answer.asks (qid_of c.in-Ok.qid)
    (ap qid_answer c.in-Ok.is) in
    may_enter (g.N.Nine.at c.args.nine.now) c.args.flags c.args.mode c.requires
    (g.met.N.Nine.good c.args.nine.now) w.0 w.1 w.2 c.count_message-2.new.self
    (g.N.Nine.at c.create.new.nine) (one_more_sent (one_alone c.count_message.new.self (g.N.Nine.at c.copy_fid.new.nine)
    c.count_message.ensures c.in_ok-copied.ensures.answer.asked) c.count_message-2.new.self
    (g.N.Nine.at c.create.new.nine) c.count_message-2.ensures c.in_ok-made.ensures.answer.asked) w.4
    (let a = c.in_ok-copied.ensures.kept.rises in let b = c.in_ok-made.ensures.kept.rises in
    omega (arith, a, b)) (qid_of c.in-Ok.qid) w.3

pub returns-in-Ok-clause-served : goal.returns-in-Ok-clause-served
returns-in-Ok-clause-served g c =
    let w = file_made (g.N.Nine.at c.args.nine.now) c.args.flags c.args.mode c.requires
    (g.met.N.Nine.good c.args.nine.now) (g.N.Nine.at c.copy_fid.new.nine)
    (g.N.Nine.at c.create.new.nine) (copy_is (g.N.Nine.at c.args.nine.now) c.args.flags c.args.mode c.requires
    (g.met.N.Nine.good c.args.nine.now) c.in_default.field-0
    (g.N.Nine.at c.copy_fid.new.nine) (tells_as _ _ _ (g.N.Nine.at c.args.nine.now) (g.N.Nine.at c.copy_fid.new.nine) c.in_default.is
    (fid_tells c.in_ok-copied.ensures.answer _
    (node_fid c.requires.stands c.args.id c.args.node c.requires.known))))
    (qid_answer c.in_ok-made.made) c.in_ok-made.ensures.answer.asks (qid_of c.in-Ok.qid)
    (ap qid_answer c.in-Ok.is) in
    ok_map c.enter_open.result _ _
    (λ r served. entry_served (g.N.Nine.at c.args.nine.now) c.args.flags c.args.mode c.requires
    (g.met.N.Nine.good c.args.nine.now) w.0 w.1 w.2 c.count_message-2.new.self
    (g.N.Nine.at c.create.new.nine) (one_more_sent (one_alone c.count_message.new.self (g.N.Nine.at c.copy_fid.new.nine)
    c.count_message.ensures c.in_ok-copied.ensures.answer.asked) c.count_message-2.new.self
    (g.N.Nine.at c.create.new.nine) c.count_message-2.ensures c.in_ok-made.ensures.answer.asked) w.4
    (let a = c.in_ok-copied.ensures.kept.rises in let b = c.in_ok-made.ensures.kept.rises in
    omega (arith, a, b)) (qid_of c.in-Ok.qid) w.3 _ (reply_of r) served)
    c.enter_open.ensures.served

pub returns-in-Ok-clause-unfinished : goal.returns-in-Ok-clause-unfinished
returns-in-Ok-clause-unfinished g c =
    let w = file_made (g.N.Nine.at c.args.nine.now) c.args.flags c.args.mode c.requires
    (g.met.N.Nine.good c.args.nine.now) (g.N.Nine.at c.copy_fid.new.nine)
    (g.N.Nine.at c.create.new.nine) (copy_is (g.N.Nine.at c.args.nine.now) c.args.flags c.args.mode c.requires
    (g.met.N.Nine.good c.args.nine.now) c.in_default.field-0
    (g.N.Nine.at c.copy_fid.new.nine) (tells_as _ _ _ (g.N.Nine.at c.args.nine.now) (g.N.Nine.at c.copy_fid.new.nine) c.in_default.is
    (fid_tells c.in_ok-copied.ensures.answer _
    (node_fid c.requires.stands c.args.id c.args.node c.requires.known))))
    (qid_answer c.in_ok-made.made) c.in_ok-made.ensures.answer.asks (qid_of c.in-Ok.qid)
    (ap qid_answer c.in-Ok.is) in
    err_map c.enter_open.result _ _
    (λ same. entry_part (g.N.Nine.at c.args.nine.now) c.args.flags c.args.mode c.requires
    (g.met.N.Nine.good c.args.nine.now) w.0 w.1 w.2 c.count_message-2.new.self
    (g.N.Nine.at c.create.new.nine) (one_more_sent (one_alone c.count_message.new.self (g.N.Nine.at c.copy_fid.new.nine)
    c.count_message.ensures c.in_ok-copied.ensures.answer.asked) c.count_message-2.new.self
    (g.N.Nine.at c.create.new.nine) c.count_message-2.ensures c.in_ok-made.ensures.answer.asked) w.4
    (let a = c.in_ok-copied.ensures.kept.rises in let b = c.in_ok-made.ensures.kept.rises in
    omega (arith, a, b)) (qid_of c.in-Ok.qid) w.3 _ same)
    c.enter_open.ensures.unfinished

pub clunk-requires-clause-known : goal.clunk-requires-clause-known
clunk-requires-clause-known g c =
    (fid_stays (g.N.Nine.at c.args.nine.now) c.args.flags c.args.mode c.requires
    (g.met.N.Nine.good c.args.nine.now) (g.N.Nine.at c.copy_fid.new.nine)
    (g.N.Nine.at c.create.new.nine) (copy_is (g.N.Nine.at c.args.nine.now) c.args.flags c.args.mode c.requires
    (g.met.N.Nine.good c.args.nine.now) c.in_default.field-0
    (g.N.Nine.at c.copy_fid.new.nine) (tells_as _ _ _ (g.N.Nine.at c.args.nine.now) (g.N.Nine.at c.copy_fid.new.nine) c.in_default.is
    (fid_tells c.in_ok-copied.ensures.answer _
    (node_fid c.requires.stands c.args.id c.args.node c.requires.known))))
    (qid_answer c.in_ok-made.made) c.in_ok-made.ensures.answer.asks c.in-Err-made.errno
    (ap qid_answer c.in-Err-made.is)).1

pub returns-in_err-clunk-in-Err-made-clause-unfinished :
    goal.returns-in_err-clunk-in-Err-made-clause-unfinished
returns-in_err-clunk-in-Err-made-clause-unfinished g c =
    on_err c.from_residual-in_err-clunk-in-Err-made.result _
    (create_left (g.N.Nine.at c.args.nine.now) c.args.flags c.args.mode c.requires
    (g.met.N.Nine.good c.args.nine.now) (g.N.Nine.at c.copy_fid.new.nine)
    (g.N.Nine.at c.create.new.nine) (copy_is (g.N.Nine.at c.args.nine.now) c.args.flags c.args.mode c.requires
    (g.met.N.Nine.good c.args.nine.now) c.in_default.field-0
    (g.N.Nine.at c.copy_fid.new.nine) (tells_as _ _ _ (g.N.Nine.at c.args.nine.now) (g.N.Nine.at c.copy_fid.new.nine) c.in_default.is
    (fid_tells c.in_ok-copied.ensures.answer _
    (node_fid c.requires.stands c.args.id c.args.node c.requires.known))))
    (qid_answer c.in_ok-made.made) c.in_ok-made.ensures.answer.asks c.in-Err-made.errno
    (ap qid_answer c.in-Err-made.is) _
    c.in_err-clunk-in-Err-made.ensures.unfinished)

pub returns-in_ok-clunk-in-Err-made-clause-served :
    goal.returns-in_ok-clunk-in-Err-made-clause-served
returns-in_ok-clunk-in-Err-made-clause-served g c =
    create_refused (g.N.Nine.at c.args.nine.now) c.args.flags c.args.mode c.requires
    (g.met.N.Nine.good c.args.nine.now) (g.N.Nine.at c.copy_fid.new.nine)
    (g.N.Nine.at c.create.new.nine) (copy_is (g.N.Nine.at c.args.nine.now) c.args.flags c.args.mode c.requires
    (g.met.N.Nine.good c.args.nine.now) c.in_default.field-0
    (g.N.Nine.at c.copy_fid.new.nine) (tells_as _ _ _ (g.N.Nine.at c.args.nine.now) (g.N.Nine.at c.copy_fid.new.nine) c.in_default.is
    (fid_tells c.in_ok-copied.ensures.answer _
    (node_fid c.requires.stands c.args.id c.args.node c.requires.known))))
    (qid_answer c.in_ok-made.made) c.in_ok-made.ensures.answer.asks c.in-Err-made.errno
    (ap qid_answer c.in-Err-made.is) _
    (g.N.Nine.at c.clunk.new.nine) (one_more_sent (one_more_sent (one_alone c.count_message.new.self (g.N.Nine.at c.copy_fid.new.nine)
    c.count_message.ensures c.in_ok-copied.ensures.answer.asked) c.count_message-2.new.self
    (g.N.Nine.at c.create.new.nine) c.count_message-2.ensures c.in_ok-made.ensures.answer.asked) c.count_message-in-Err-made.new.self
    (g.N.Nine.at c.clunk.new.nine) c.count_message-in-Err-made.ensures
    c.in_ok-clunk-in-Err-made.ensures.gone.asked) c.in_ok-copied.ensures.kept.rises
    c.in_ok-clunk-in-Err-made.ensures.kept.rises c.in_ok-clunk-in-Err-made.ensures.gone.state
