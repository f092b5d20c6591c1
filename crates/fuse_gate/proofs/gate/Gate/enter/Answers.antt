-- The attributes, and then the second fid's going or a new node.
use Rattle.std.proofs.Common.{sym, ◌∙◌, ap}
use Rattle.fid_model.specs.Fids.{ServerState, closed}
use Rattle.fuse_gate.specs.Desks.{entry_told}
use Rattle.fuse_gate.proofs.Asking.{fid_tells, on_err}
use Rattle.fuse_gate.proofs.Entering.{shown_same, fresh_stays, enter_known, enter_new}
use Rattle.fuse_gate.proofs.Entering.{enter_refused, clunk_tree}
use Rattle.fuse_gate.proofs.gate.Gate.enter.Goals as goal

pub clunk-requires-clause-roomy : goal.clunk-requires-clause-roomy
clunk-requires-clause-roomy g c = (fresh_stays (g.N.Nine.at c.args.nine.now) c.requires
    c.show.new.self (g.N.Nine.at c.show.new.nine) c.in_ok-attr.field-0
    (fid_tells c.in_ok-attr.ensures.answer (closed c.args.qid.path) c.requires.fresh)).0

pub clunk-requires-clause-known : goal.clunk-requires-clause-known
clunk-requires-clause-known g c = (fresh_stays (g.N.Nine.at c.args.nine.now) c.requires
    c.show.new.self (g.N.Nine.at c.show.new.nine) c.in_ok-attr.field-0
    (fid_tells c.in_ok-attr.ensures.answer (closed c.args.qid.path) c.requires.fresh)).1

pub clunk-requires-in-Err-clause-roomy : goal.clunk-requires-in-Err-clause-roomy
clunk-requires-in-Err-clause-roomy g c = (fresh_stays (g.N.Nine.at c.args.nine.now) c.requires
    c.show.new.self (g.N.Nine.at c.show.new.nine) c.in_ok-attr.field-0
    (fid_tells c.in_ok-attr.ensures.answer (closed c.args.qid.path) c.requires.fresh)).0

pub clunk-requires-in-Err-clause-known : goal.clunk-requires-in-Err-clause-known
clunk-requires-in-Err-clause-known g c = (fresh_stays (g.N.Nine.at c.args.nine.now) c.requires
    c.show.new.self (g.N.Nine.at c.show.new.nine) c.in_ok-attr.field-0
    (fid_tells c.in_ok-attr.ensures.answer (closed c.args.qid.path) c.requires.fresh)).1

pub returns-in_ok-clunk-in-Some-clause-served : goal.returns-in_ok-clunk-in-Some-clause-served
returns-in_ok-clunk-in-Some-clause-served g c =
    rw c.entry.ensures.node (rw c.entry.ensures.attributes (enter_known (g.N.Nine.at c.args.nine.now) c.requires c.show.new.self
    (g.N.Nine.at c.show.new.nine) c.in_ok-attr.field-0
    (fid_tells c.in_ok-attr.ensures.answer (closed c.args.qid.path) c.requires.fresh)
    c.in_ok-attr.ensures.counted c.in_ok-attr.ensures.answer.asked c.in-Ok.attr c.in-Ok.is
    c.in-Some.node (sym (c.in-Some.ensures ∙ c.get.ensures)) c.count_message.new.self _
    (g.N.Nine.at c.clunk.new.nine)
    c.count_message.ensures c.count_up.ensures c.in_ok-clunk-in-Some.ensures.gone.asked
    c.in_ok-clunk-in-Some.ensures.gone.state))

pub returns-in_ok-add_node-in-None-clause-served : goal.returns-in_ok-add_node-in-None-clause-served
returns-in_ok-add_node-in-None-clause-served g c =
    rw c.entry-in-None.ensures.node (rw c.entry-in-None.ensures.attributes (enter_new (g.N.Nine.at c.args.nine.now) c.requires c.show.new.self (g.N.Nine.at c.show.new.nine)
    c.in_ok-attr.field-0 (fid_tells c.in_ok-attr.ensures.answer (closed c.args.qid.path)
    c.requires.fresh)
    c.in_ok-attr.ensures.counted c.in_ok-attr.ensures.answer.asked c.in-Ok.attr c.in-Ok.is
    (g.met.N.Nine.good c.show.new.nine) (sym (c.in-None.ensures ∙ c.get.ensures)) _
    c.in_ok-add_node-in-None.ensures))

pub returns-in_ok-clunk-in-Err-clause-served : goal.returns-in_ok-clunk-in-Err-clause-served
returns-in_ok-clunk-in-Err-clause-served g c =
    enter_refused (g.N.Nine.at c.args.nine.now) c.requires c.show.new.self
    (g.N.Nine.at c.show.new.nine) c.in_ok-attr.field-0
    (fid_tells c.in_ok-attr.ensures.answer (closed c.args.qid.path) c.requires.fresh)
    c.in_ok-attr.ensures.counted c.in_ok-attr.ensures.answer.asked c.in-Err.errno c.in-Err.is _
    (g.N.Nine.at c.clunk-in-Err.new.nine) c.count_message-in-Err.ensures
    c.in_ok-clunk-in-Err.ensures.gone.asked c.in_ok-clunk-in-Err.ensures.kept.rises
    c.in_ok-clunk-in-Err.ensures.gone.state

pub returns-in_err-clunk-in-Some-clause-unfinished :
    goal.returns-in_err-clunk-in-Some-clause-unfinished
returns-in_err-clunk-in-Some-clause-unfinished g c =
    on_err (entry_told c.from_residual-in_err-clunk-in-Some.result) _
    (clunk_tree (g.N.Nine.at c.args.nine.now) c.requires c.show.new.self
    (g.N.Nine.at c.show.new.nine) c.in_ok-attr.field-0
    (fid_tells c.in_ok-attr.ensures.answer (closed c.args.qid.path) c.requires.fresh)
    (g.N.Nine.at c.clunk.new.nine) c.in_err-clunk-in-Some.ensures.unfinished)

pub returns-in_err-add_node-in-None-clause-unfinished :
    goal.returns-in_err-add_node-in-None-clause-unfinished
returns-in_err-add_node-in-None-clause-unfinished g c =
    on_err (entry_told c.from_residual-in_err-add_node-in-None.result) _
    (ap (λ (x : ServerState). x.tree) (shown_same (g.N.Nine.at c.args.nine.now) c.requires
    c.show.new.self (g.N.Nine.at c.show.new.nine) c.in_ok-attr.field-0
    (fid_tells c.in_ok-attr.ensures.answer (closed c.args.qid.path) c.requires.fresh)))

pub returns-in_err-clunk-in-Err-clause-unfinished :
    goal.returns-in_err-clunk-in-Err-clause-unfinished
returns-in_err-clunk-in-Err-clause-unfinished g c =
    on_err (entry_told c.from_residual-in_err-clunk-in-Err.result) _
    (clunk_tree (g.N.Nine.at c.args.nine.now) c.requires c.show.new.self
    (g.N.Nine.at c.show.new.nine) c.in_ok-attr.field-0
    (fid_tells c.in_ok-attr.ensures.answer (closed c.args.qid.path) c.requires.fresh)
    (g.N.Nine.at c.clunk-in-Err.new.nine) c.in_err-clunk-in-Err.ensures.unfinished)
