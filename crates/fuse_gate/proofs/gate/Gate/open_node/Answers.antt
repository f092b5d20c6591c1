-- A copy of the node's fid is opened under the next number; where that is refused, the copy goes
-- again.
use Rattle.std.proofs.Common.{ap, ◌∙◌}
use Rattle.p9_wire.specs.Qids.{qid_of}
use Rattle.p9_client.specs.Views.{qid_answer}
use Rattle.fuse_gate.specs.Changes.{with_handle}
use Rattle.fuse_gate.specs.declared.gate.Handle.{Handle}
use Rattle.fuse_gate.proofs.Asking.{on_err}
use Rattle.fuse_gate.proofs.Standings.{fid_free, fids_below}
use Rattle.fuse_gate.proofs.Serving.{one_alone, one_more_sent}
use Rattle.fuse_gate.proofs.EmptyingFiles.{copy_refused, copy_is, message_part, was_opened}
use Rattle.fuse_gate.proofs.EmptyingFiles.{open_part, open_made, fid_stays, open_left}
use Rattle.fuse_gate.proofs.EmptyingFiles.{open_refused}
use Rattle.fuse_gate.proofs.gate.Gate.open_node.Goals as goal

pub copy_fid-requires-clause-fresh : goal.copy_fid-requires-clause-fresh
copy_fid-requires-clause-fresh g c = fid_free c.requires.stands

pub copy_fid-requires-clause-below : goal.copy_fid-requires-clause-below
copy_fid-requires-clause-below g c = fids_below c.requires.stands c.requires.room

pub returns-in-Err-clause-served : goal.returns-in-Err-clause-served
returns-in-Err-clause-served g c =
    copy_refused (g.N.Nine.at c.args.nine.now) c.requires
    (g.met.N.Nine.good c.args.nine.now) _
    c.in-Err.errno _ (g.N.Nine.at c.copy_fid.new.nine) c.in-Err.is c.in_ok-copied.ensures.answer
    c.count_message.ensures c.in_ok-copied.ensures.kept.rises

pub returns-in_err-opened-clause-unfinished : goal.returns-in_err-opened-clause-unfinished
returns-in_err-opened-clause-unfinished g c =
    on_err c.from_residual-in_err-opened.result _
    (message_part (g.N.Nine.at c.args.nine.now) c.requires
    (g.met.N.Nine.good c.args.nine.now) _ (copy_is (g.N.Nine.at c.args.nine.now) c.requires
    (g.met.N.Nine.good c.args.nine.now) _ c.in_default.field-0
    (g.N.Nine.at c.copy_fid.new.nine) c.in_default.is c.in_ok-copied.ensures.answer) _
    c.in_err-opened.ensures.unfinished)

pub returns-in_err-add_handle-in-Ok-clause-unfinished :
    goal.returns-in_err-add_handle-in-Ok-clause-unfinished
returns-in_err-add_handle-in-Ok-clause-unfinished g c =
    let w = was_opened (g.N.Nine.at c.args.nine.now) c.requires
    (g.met.N.Nine.good c.args.nine.now) (g.N.Nine.at c.copy_fid.new.nine)
    (g.N.Nine.at c.open_truncated.new.nine) (copy_is (g.N.Nine.at c.args.nine.now) c.requires
    (g.met.N.Nine.good c.args.nine.now) _ c.in_default.field-0
    (g.N.Nine.at c.copy_fid.new.nine) c.in_default.is c.in_ok-copied.ensures.answer)
    (qid_answer c.in_ok-opened.opened) c.in_ok-opened.ensures.answer.asks
    (qid_of c.in-Ok.field-0) (ap qid_answer c.in-Ok.is) in
    on_err c.from_residual-in_err-add_handle-in-Ok.result _
    (open_part (g.N.Nine.at c.args.nine.now) c.requires
    (g.met.N.Nine.good c.args.nine.now) w.0 w.1
    (g.N.Nine.at c.open_truncated.new.nine) w.2)

pub returns-in_ok-add_handle-in-Ok-clause-served : goal.returns-in_ok-add_handle-in-Ok-clause-served
returns-in_ok-add_handle-in-Ok-clause-served g c =
    let w = was_opened (g.N.Nine.at c.args.nine.now) c.requires
    (g.met.N.Nine.good c.args.nine.now) (g.N.Nine.at c.copy_fid.new.nine)
    (g.N.Nine.at c.open_truncated.new.nine) (copy_is (g.N.Nine.at c.args.nine.now) c.requires
    (g.met.N.Nine.good c.args.nine.now) _ c.in_default.field-0
    (g.N.Nine.at c.copy_fid.new.nine) c.in_default.is c.in_ok-copied.ensures.answer)
    (qid_answer c.in_ok-opened.opened) c.in_ok-opened.ensures.answer.asks
    (qid_of c.in-Ok.field-0) (ap qid_answer c.in-Ok.is) in
    open_made (g.N.Nine.at c.args.nine.now) c.requires
    (g.met.N.Nine.good c.args.nine.now) w.0 w.1
    (g.N.Nine.at c.open_truncated.new.nine) w.2 c.count_message-2.new.self _
    (one_more_sent
    (one_alone c.count_message.new.self (g.N.Nine.at c.copy_fid.new.nine) c.count_message.ensures
    c.in_ok-copied.ensures.answer.asked) c.count_message-2.new.self
    (g.N.Nine.at c.open_truncated.new.nine) c.count_message-2.ensures
    c.in_ok-opened.ensures.answer.asked)
    (g.met.N.Nine.good c.open_truncated.new.nine)
    (c.in_ok-add_handle-in-Ok.ensures ∙ ap
    (λ (h : Handle). with_handle c.count_message-2.new.self h) c.handle_by.ensures)

pub clunk-requires-clause-known : goal.clunk-requires-clause-known
clunk-requires-clause-known g c =
    (fid_stays (g.N.Nine.at c.args.nine.now) c.requires
    (g.met.N.Nine.good c.args.nine.now) (g.N.Nine.at c.copy_fid.new.nine)
    (g.N.Nine.at c.open_truncated.new.nine) (copy_is (g.N.Nine.at c.args.nine.now) c.requires
    (g.met.N.Nine.good c.args.nine.now) _ c.in_default.field-0
    (g.N.Nine.at c.copy_fid.new.nine) c.in_default.is c.in_ok-copied.ensures.answer)
    (qid_answer c.in_ok-opened.opened) c.in_ok-opened.ensures.answer.asks c.in-Err-opened.errno
    (ap qid_answer c.in-Err-opened.is)).1

pub returns-in_err-clunk-in-Err-opened-clause-unfinished :
    goal.returns-in_err-clunk-in-Err-opened-clause-unfinished
returns-in_err-clunk-in-Err-opened-clause-unfinished g c =
    on_err c.from_residual-in_err-clunk-in-Err-opened.result _
    (open_left (g.N.Nine.at c.args.nine.now) c.requires
    (g.met.N.Nine.good c.args.nine.now) (g.N.Nine.at c.copy_fid.new.nine)
    (g.N.Nine.at c.open_truncated.new.nine) (copy_is (g.N.Nine.at c.args.nine.now) c.requires
    (g.met.N.Nine.good c.args.nine.now) _ c.in_default.field-0
    (g.N.Nine.at c.copy_fid.new.nine) c.in_default.is c.in_ok-copied.ensures.answer)
    (qid_answer c.in_ok-opened.opened) c.in_ok-opened.ensures.answer.asks c.in-Err-opened.errno
    (ap qid_answer c.in-Err-opened.is) _
    c.in_err-clunk-in-Err-opened.ensures.unfinished)

pub returns-in_ok-clunk-in-Err-opened-clause-served :
    goal.returns-in_ok-clunk-in-Err-opened-clause-served
returns-in_ok-clunk-in-Err-opened-clause-served g c =
    open_refused (g.N.Nine.at c.args.nine.now) c.requires
    (g.met.N.Nine.good c.args.nine.now) (g.N.Nine.at c.copy_fid.new.nine)
    (g.N.Nine.at c.open_truncated.new.nine) (copy_is (g.N.Nine.at c.args.nine.now) c.requires
    (g.met.N.Nine.good c.args.nine.now) _ c.in_default.field-0
    (g.N.Nine.at c.copy_fid.new.nine) c.in_default.is c.in_ok-copied.ensures.answer)
    (qid_answer c.in_ok-opened.opened) c.in_ok-opened.ensures.answer.asks c.in-Err-opened.errno
    (ap qid_answer c.in-Err-opened.is) _
    (g.N.Nine.at c.clunk.new.nine) (one_more_sent (one_more_sent
    (one_alone c.count_message.new.self (g.N.Nine.at c.copy_fid.new.nine) c.count_message.ensures
    c.in_ok-copied.ensures.answer.asked) c.count_message-2.new.self
    (g.N.Nine.at c.open_truncated.new.nine) c.count_message-2.ensures
    c.in_ok-opened.ensures.answer.asked)
    c.count_message-in-Err-opened.new.self (g.N.Nine.at c.clunk.new.nine)
    c.count_message-in-Err-opened.ensures c.in_ok-clunk-in-Err-opened.ensures.gone.asked)
    c.in_ok-copied.ensures.kept.rises c.in_ok-clunk-in-Err-opened.ensures.kept.rises
    c.in_ok-clunk-in-Err-opened.ensures.gone.state
