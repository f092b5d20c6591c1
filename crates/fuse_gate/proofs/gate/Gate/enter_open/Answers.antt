-- The copy, the attributes, and then two numbers; or both fids go.
use Rattle.std.proofs.Common.{ap, arith, ◌∙◌}
use Rattle.fid_model.specs.Fids.{ServerState, closed}
use Rattle.fuse_gate.specs.Changes.{with_handle}
use Rattle.fuse_gate.proofs.Asking.{fid_tells, tells_as, on_err}
use Rattle.fuse_gate.proofs.Serving.{one_alone, one_more_sent}
use Rattle.fuse_gate.proofs.OpenEntries.{node_free, node_below, copy_is, copy_fault, open_stays}
use Rattle.fuse_gate.proofs.OpenEntries.{copy_stays, copy_at, gone_node, gone_open, open_left}
use Rattle.fuse_gate.proofs.OpenEntries.{node_left, entry_hurt, shown_same, shown_tree, shown_fault}
use Rattle.fuse_gate.proofs.OpenEntries.{entry_made}
use Rattle.fuse_gate.proofs.gate.Gate.enter_open.Goals as goal

pub copy_fid-requires-clause-fresh : goal.copy_fid-requires-clause-fresh
copy_fid-requires-clause-fresh g c =
    node_free (g.N.Nine.at c.args.nine.now) c.requires (g.met.N.Nine.good c.args.nine.now)

pub copy_fid-requires-clause-below : goal.copy_fid-requires-clause-below
copy_fid-requires-clause-below g c =
    node_below (g.N.Nine.at c.args.nine.now) c.requires (g.met.N.Nine.good c.args.nine.now)

pub clunk-requires-clause-known : goal.clunk-requires-clause-known
clunk-requires-clause-known g c =
    (open_stays (g.N.Nine.at c.args.nine.now) c.requires (g.met.N.Nine.good c.args.nine.now) _ (copy_fault (g.N.Nine.at c.args.nine.now) c.requires (g.met.N.Nine.good c.args.nine.now) c.in-Err.errno (g.N.Nine.at c.copy_fid.new.nine)
    (tells_as _ _ _ (g.N.Nine.at c.args.nine.now) (g.N.Nine.at c.copy_fid.new.nine) c.in-Err.is
    (fid_tells c.in_ok-copied.ensures.answer _ c.requires.is_open))).2).1

pub returns-in_err-clunk-clause-unfinished : goal.returns-in_err-clunk-clause-unfinished
returns-in_err-clunk-clause-unfinished g c =
    on_err c.from_residual-in_err-clunk.result _ (open_left (g.N.Nine.at c.args.nine.now) c.requires (g.met.N.Nine.good c.args.nine.now) _ _
    (copy_fault (g.N.Nine.at c.args.nine.now) c.requires (g.met.N.Nine.good c.args.nine.now) c.in-Err.errno (g.N.Nine.at c.copy_fid.new.nine)
    (tells_as _ _ _ (g.N.Nine.at c.args.nine.now) (g.N.Nine.at c.copy_fid.new.nine) c.in-Err.is
    (fid_tells c.in_ok-copied.ensures.answer _ c.requires.is_open))).2 c.in_err-clunk.ensures.unfinished)

pub returns-in-Err-clause-served : goal.returns-in-Err-clause-served
returns-in-Err-clause-served g c =
    let f = (copy_fault (g.N.Nine.at c.args.nine.now) c.requires (g.met.N.Nine.good c.args.nine.now) c.in-Err.errno (g.N.Nine.at c.copy_fid.new.nine)
    (tells_as _ _ _ (g.N.Nine.at c.args.nine.now) (g.N.Nine.at c.copy_fid.new.nine) c.in-Err.is
    (fid_tells c.in_ok-copied.ensures.answer _ c.requires.is_open))) in
    entry_hurt (g.N.Nine.at c.args.nine.now) c.requires (g.met.N.Nine.good c.args.nine.now) 2 c.in-Err.errno _ (g.N.Nine.at c.clunk.new.nine)
    (one_more_sent (one_alone c.count_message.new.self (g.N.Nine.at c.copy_fid.new.nine) c.count_message.ensures
    c.in_ok-copied.ensures.answer.asked) _ (g.N.Nine.at c.clunk.new.nine)
    c.count_message-in-Err.ensures c.in_ok-clunk.ensures.gone.asked)
    (gone_open (g.N.Nine.at c.args.nine.now) c.requires (g.met.N.Nine.good c.args.nine.now) _ _ f.2 c.in_ok-clunk.ensures.gone.state)
    (let rose = f.0 in let later = c.in_ok-clunk.ensures.kept.rises in omega (arith, rose, later))
    f.1

pub show-requires-clause-known : goal.show-requires-clause-known
show-requires-clause-known g c =
    (copy_stays (g.N.Nine.at c.args.nine.now) c.requires (g.met.N.Nine.good c.args.nine.now) _ (copy_is (g.N.Nine.at c.args.nine.now) c.requires (g.met.N.Nine.good c.args.nine.now) c.in_default.field-0 (g.N.Nine.at c.copy_fid.new.nine)
    (tells_as _ _ _ (g.N.Nine.at c.args.nine.now) (g.N.Nine.at c.copy_fid.new.nine) c.in_default.is
    (fid_tells c.in_ok-copied.ensures.answer _ c.requires.is_open)))).1

pub returns-in_err-attr-clause-unfinished : goal.returns-in_err-attr-clause-unfinished
returns-in_err-attr-clause-unfinished g c =
    on_err c.from_residual-in_err-attr.result _
    (c.in_err-attr.ensures.unfinished ∙ ap (λ (x : ServerState). x.tree) (copy_is (g.N.Nine.at c.args.nine.now) c.requires (g.met.N.Nine.good c.args.nine.now) c.in_default.field-0 (g.N.Nine.at c.copy_fid.new.nine)
    (tells_as _ _ _ (g.N.Nine.at c.args.nine.now) (g.N.Nine.at c.copy_fid.new.nine) c.in_default.is
    (fid_tells c.in_ok-copied.ensures.answer _ c.requires.is_open))))

pub returns-in_err-add_node-in-Ok-clause-unfinished :
    goal.returns-in_err-add_node-in-Ok-clause-unfinished
returns-in_err-add_node-in-Ok-clause-unfinished g c =
    on_err c.from_residual-in_err-add_node-in-Ok.result _ (shown_tree (g.N.Nine.at c.args.nine.now) c.requires (g.met.N.Nine.good c.args.nine.now) (g.N.Nine.at c.copy_fid.new.nine) (g.N.Nine.at c.show.new.nine)
    (copy_is (g.N.Nine.at c.args.nine.now) c.requires (g.met.N.Nine.good c.args.nine.now) c.in_default.field-0 (g.N.Nine.at c.copy_fid.new.nine)
    (tells_as _ _ _ (g.N.Nine.at c.args.nine.now) (g.N.Nine.at c.copy_fid.new.nine) c.in_default.is
    (fid_tells c.in_ok-copied.ensures.answer _ c.requires.is_open))) c.in_ok-attr.field-0
    (fid_tells c.in_ok-attr.ensures.answer (closed c.args.qid.path) (copy_at (g.N.Nine.at c.args.nine.now) c.requires (g.met.N.Nine.good c.args.nine.now) _
    (copy_is (g.N.Nine.at c.args.nine.now) c.requires (g.met.N.Nine.good c.args.nine.now) c.in_default.field-0 (g.N.Nine.at c.copy_fid.new.nine)
    (tells_as _ _ _ (g.N.Nine.at c.args.nine.now) (g.N.Nine.at c.copy_fid.new.nine) c.in_default.is
    (fid_tells c.in_ok-copied.ensures.answer _ c.requires.is_open))))))

pub returns-in_err-add_handle-in-Ok-clause-unfinished :
    goal.returns-in_err-add_handle-in-Ok-clause-unfinished
returns-in_err-add_handle-in-Ok-clause-unfinished g c =
    on_err c.from_residual-in_err-add_handle-in-Ok.result _ (shown_tree (g.N.Nine.at c.args.nine.now) c.requires (g.met.N.Nine.good c.args.nine.now) (g.N.Nine.at c.copy_fid.new.nine) (g.N.Nine.at c.show.new.nine)
    (copy_is (g.N.Nine.at c.args.nine.now) c.requires (g.met.N.Nine.good c.args.nine.now) c.in_default.field-0 (g.N.Nine.at c.copy_fid.new.nine)
    (tells_as _ _ _ (g.N.Nine.at c.args.nine.now) (g.N.Nine.at c.copy_fid.new.nine) c.in_default.is
    (fid_tells c.in_ok-copied.ensures.answer _ c.requires.is_open))) c.in_ok-attr.field-0
    (fid_tells c.in_ok-attr.ensures.answer (closed c.args.qid.path) (copy_at (g.N.Nine.at c.args.nine.now) c.requires (g.met.N.Nine.good c.args.nine.now) _
    (copy_is (g.N.Nine.at c.args.nine.now) c.requires (g.met.N.Nine.good c.args.nine.now) c.in_default.field-0 (g.N.Nine.at c.copy_fid.new.nine)
    (tells_as _ _ _ (g.N.Nine.at c.args.nine.now) (g.N.Nine.at c.copy_fid.new.nine) c.in_default.is
    (fid_tells c.in_ok-copied.ensures.answer _ c.requires.is_open))))))

pub clunk-requires-in-Err-2-clause-known : goal.clunk-requires-in-Err-2-clause-known
clunk-requires-in-Err-2-clause-known g c =
    (copy_stays (g.N.Nine.at c.args.nine.now) c.requires (g.met.N.Nine.good c.args.nine.now) _ (shown_same (g.N.Nine.at c.args.nine.now) c.requires (g.met.N.Nine.good c.args.nine.now) (g.N.Nine.at c.copy_fid.new.nine) (g.N.Nine.at c.show.new.nine)
    (copy_is (g.N.Nine.at c.args.nine.now) c.requires (g.met.N.Nine.good c.args.nine.now) c.in_default.field-0 (g.N.Nine.at c.copy_fid.new.nine)
    (tells_as _ _ _ (g.N.Nine.at c.args.nine.now) (g.N.Nine.at c.copy_fid.new.nine) c.in_default.is
    (fid_tells c.in_ok-copied.ensures.answer _ c.requires.is_open))) c.in_ok-attr.field-0
    (fid_tells c.in_ok-attr.ensures.answer (closed c.args.qid.path) (copy_at (g.N.Nine.at c.args.nine.now) c.requires (g.met.N.Nine.good c.args.nine.now) _
    (copy_is (g.N.Nine.at c.args.nine.now) c.requires (g.met.N.Nine.good c.args.nine.now) c.in_default.field-0 (g.N.Nine.at c.copy_fid.new.nine)
    (tells_as _ _ _ (g.N.Nine.at c.args.nine.now) (g.N.Nine.at c.copy_fid.new.nine) c.in_default.is
    (fid_tells c.in_ok-copied.ensures.answer _ c.requires.is_open))))))).1

pub returns-in_err-clunk-in-Err-2-clause-unfinished :
    goal.returns-in_err-clunk-in-Err-2-clause-unfinished
returns-in_err-clunk-in-Err-2-clause-unfinished g c =
    on_err c.from_residual-in_err-clunk-in-Err-2.result _ (node_left (g.N.Nine.at c.args.nine.now) c.requires (g.met.N.Nine.good c.args.nine.now) _ _
    (shown_same (g.N.Nine.at c.args.nine.now) c.requires (g.met.N.Nine.good c.args.nine.now) (g.N.Nine.at c.copy_fid.new.nine) (g.N.Nine.at c.show.new.nine)
    (copy_is (g.N.Nine.at c.args.nine.now) c.requires (g.met.N.Nine.good c.args.nine.now) c.in_default.field-0 (g.N.Nine.at c.copy_fid.new.nine)
    (tells_as _ _ _ (g.N.Nine.at c.args.nine.now) (g.N.Nine.at c.copy_fid.new.nine) c.in_default.is
    (fid_tells c.in_ok-copied.ensures.answer _ c.requires.is_open))) c.in_ok-attr.field-0
    (fid_tells c.in_ok-attr.ensures.answer (closed c.args.qid.path) (copy_at (g.N.Nine.at c.args.nine.now) c.requires (g.met.N.Nine.good c.args.nine.now) _
    (copy_is (g.N.Nine.at c.args.nine.now) c.requires (g.met.N.Nine.good c.args.nine.now) c.in_default.field-0 (g.N.Nine.at c.copy_fid.new.nine)
    (tells_as _ _ _ (g.N.Nine.at c.args.nine.now) (g.N.Nine.at c.copy_fid.new.nine) c.in_default.is
    (fid_tells c.in_ok-copied.ensures.answer _ c.requires.is_open)))))) c.in_err-clunk-in-Err-2.ensures.unfinished)

pub clunk-requires-in-Err-2-2-clause-known : goal.clunk-requires-in-Err-2-2-clause-known
clunk-requires-in-Err-2-2-clause-known g c =
    (open_stays (g.N.Nine.at c.args.nine.now) c.requires (g.met.N.Nine.good c.args.nine.now) _ (gone_node (g.N.Nine.at c.args.nine.now) c.requires (g.met.N.Nine.good c.args.nine.now) _ _ (shown_same (g.N.Nine.at c.args.nine.now) c.requires (g.met.N.Nine.good c.args.nine.now) (g.N.Nine.at c.copy_fid.new.nine) (g.N.Nine.at c.show.new.nine)
    (copy_is (g.N.Nine.at c.args.nine.now) c.requires (g.met.N.Nine.good c.args.nine.now) c.in_default.field-0 (g.N.Nine.at c.copy_fid.new.nine)
    (tells_as _ _ _ (g.N.Nine.at c.args.nine.now) (g.N.Nine.at c.copy_fid.new.nine) c.in_default.is
    (fid_tells c.in_ok-copied.ensures.answer _ c.requires.is_open))) c.in_ok-attr.field-0
    (fid_tells c.in_ok-attr.ensures.answer (closed c.args.qid.path) (copy_at (g.N.Nine.at c.args.nine.now) c.requires (g.met.N.Nine.good c.args.nine.now) _
    (copy_is (g.N.Nine.at c.args.nine.now) c.requires (g.met.N.Nine.good c.args.nine.now) c.in_default.field-0 (g.N.Nine.at c.copy_fid.new.nine)
    (tells_as _ _ _ (g.N.Nine.at c.args.nine.now) (g.N.Nine.at c.copy_fid.new.nine) c.in_default.is
    (fid_tells c.in_ok-copied.ensures.answer _ c.requires.is_open))))))
    c.in_ok-clunk-in-Err-2.ensures.gone.state)).1

pub returns-in_err-clunk-in-Err-2-2-clause-unfinished :
    goal.returns-in_err-clunk-in-Err-2-2-clause-unfinished
returns-in_err-clunk-in-Err-2-2-clause-unfinished g c =
    on_err c.from_residual-in_err-clunk-in-Err-2-2.result _ (open_left (g.N.Nine.at c.args.nine.now) c.requires (g.met.N.Nine.good c.args.nine.now) _ _
    (gone_node (g.N.Nine.at c.args.nine.now) c.requires (g.met.N.Nine.good c.args.nine.now) _ _ (shown_same (g.N.Nine.at c.args.nine.now) c.requires (g.met.N.Nine.good c.args.nine.now) (g.N.Nine.at c.copy_fid.new.nine) (g.N.Nine.at c.show.new.nine)
    (copy_is (g.N.Nine.at c.args.nine.now) c.requires (g.met.N.Nine.good c.args.nine.now) c.in_default.field-0 (g.N.Nine.at c.copy_fid.new.nine)
    (tells_as _ _ _ (g.N.Nine.at c.args.nine.now) (g.N.Nine.at c.copy_fid.new.nine) c.in_default.is
    (fid_tells c.in_ok-copied.ensures.answer _ c.requires.is_open))) c.in_ok-attr.field-0
    (fid_tells c.in_ok-attr.ensures.answer (closed c.args.qid.path) (copy_at (g.N.Nine.at c.args.nine.now) c.requires (g.met.N.Nine.good c.args.nine.now) _
    (copy_is (g.N.Nine.at c.args.nine.now) c.requires (g.met.N.Nine.good c.args.nine.now) c.in_default.field-0 (g.N.Nine.at c.copy_fid.new.nine)
    (tells_as _ _ _ (g.N.Nine.at c.args.nine.now) (g.N.Nine.at c.copy_fid.new.nine) c.in_default.is
    (fid_tells c.in_ok-copied.ensures.answer _ c.requires.is_open))))))
    c.in_ok-clunk-in-Err-2.ensures.gone.state) c.in_err-clunk-in-Err-2-2.ensures.unfinished)

pub returns-in_ok-add_handle-in-Ok-clause-served :
    goal.returns-in_ok-add_handle-in-Ok-clause-served
returns-in_ok-add_handle-in-Ok-clause-served g c =
    entry_made (g.N.Nine.at c.args.nine.now) c.requires (g.met.N.Nine.good c.args.nine.now) (g.N.Nine.at c.copy_fid.new.nine) (g.N.Nine.at c.show.new.nine)
    (copy_is (g.N.Nine.at c.args.nine.now) c.requires (g.met.N.Nine.good c.args.nine.now) c.in_default.field-0 (g.N.Nine.at c.copy_fid.new.nine)
    (tells_as _ _ _ (g.N.Nine.at c.args.nine.now) (g.N.Nine.at c.copy_fid.new.nine) c.in_default.is
    (fid_tells c.in_ok-copied.ensures.answer _ c.requires.is_open))) c.in_ok-attr.field-0
    (fid_tells c.in_ok-attr.ensures.answer (closed c.args.qid.path) (copy_at (g.N.Nine.at c.args.nine.now) c.requires (g.met.N.Nine.good c.args.nine.now) _
    (copy_is (g.N.Nine.at c.args.nine.now) c.requires (g.met.N.Nine.good c.args.nine.now) c.in_default.field-0 (g.N.Nine.at c.copy_fid.new.nine)
    (tells_as _ _ _ (g.N.Nine.at c.args.nine.now) (g.N.Nine.at c.copy_fid.new.nine) c.in_default.is
    (fid_tells c.in_ok-copied.ensures.answer _ c.requires.is_open))))) c.in-Ok.attr c.in-Ok.is
    (g.met.N.Nine.good c.show.new.nine) c.show.new.self _
    (one_more_sent (one_alone c.count_message.new.self (g.N.Nine.at c.copy_fid.new.nine) c.count_message.ensures
    c.in_ok-copied.ensures.answer.asked) c.show.new.self (g.N.Nine.at c.show.new.nine) c.in_ok-attr.ensures.counted
    c.in_ok-attr.ensures.answer.asked)
    (c.in_ok-add_handle-in-Ok.ensures ∙ (λ j. with_handle (c.in_ok-add_node-in-Ok.ensures j)
    (c.open_by.ensures j)))

pub returns-in_ok-clunk-in-Err-2-2-clause-served :
    goal.returns-in_ok-clunk-in-Err-2-2-clause-served
returns-in_ok-clunk-in-Err-2-2-clause-served g c =
    let f = shown_fault (g.N.Nine.at c.args.nine.now) c.requires (g.met.N.Nine.good c.args.nine.now) (g.N.Nine.at c.copy_fid.new.nine) (g.N.Nine.at c.show.new.nine)
    (copy_is (g.N.Nine.at c.args.nine.now) c.requires (g.met.N.Nine.good c.args.nine.now) c.in_default.field-0 (g.N.Nine.at c.copy_fid.new.nine)
    (tells_as _ _ _ (g.N.Nine.at c.args.nine.now) (g.N.Nine.at c.copy_fid.new.nine) c.in_default.is
    (fid_tells c.in_ok-copied.ensures.answer _ c.requires.is_open))) c.in_ok-attr.field-0
    (fid_tells c.in_ok-attr.ensures.answer (closed c.args.qid.path) (copy_at (g.N.Nine.at c.args.nine.now) c.requires (g.met.N.Nine.good c.args.nine.now) _
    (copy_is (g.N.Nine.at c.args.nine.now) c.requires (g.met.N.Nine.good c.args.nine.now) c.in_default.field-0 (g.N.Nine.at c.copy_fid.new.nine)
    (tells_as _ _ _ (g.N.Nine.at c.args.nine.now) (g.N.Nine.at c.copy_fid.new.nine) c.in_default.is
    (fid_tells c.in_ok-copied.ensures.answer _ c.requires.is_open))))) c.in-Err-2.errno c.in-Err-2.is in
    entry_hurt (g.N.Nine.at c.args.nine.now) c.requires (g.met.N.Nine.good c.args.nine.now) 4 c.in-Err-2.errno _ (g.N.Nine.at c.clunk-in-Err-2-2.new.nine)
    (one_more_sent (one_more_sent (one_more_sent (one_alone c.count_message.new.self (g.N.Nine.at c.copy_fid.new.nine) c.count_message.ensures
    c.in_ok-copied.ensures.answer.asked) c.show.new.self (g.N.Nine.at c.show.new.nine) c.in_ok-attr.ensures.counted
    c.in_ok-attr.ensures.answer.asked) _
    (g.N.Nine.at c.clunk-in-Err-2.new.nine) c.count_message-in-Err-2.ensures
    c.in_ok-clunk-in-Err-2.ensures.gone.asked) _ (g.N.Nine.at c.clunk-in-Err-2-2.new.nine)
    c.count_message-in-Err-2-2.ensures c.in_ok-clunk-in-Err-2-2.ensures.gone.asked)
    (gone_open (g.N.Nine.at c.args.nine.now) c.requires (g.met.N.Nine.good c.args.nine.now) _ _ (gone_node (g.N.Nine.at c.args.nine.now) c.requires (g.met.N.Nine.good c.args.nine.now) _ _ (shown_same (g.N.Nine.at c.args.nine.now) c.requires (g.met.N.Nine.good c.args.nine.now) (g.N.Nine.at c.copy_fid.new.nine) (g.N.Nine.at c.show.new.nine)
    (copy_is (g.N.Nine.at c.args.nine.now) c.requires (g.met.N.Nine.good c.args.nine.now) c.in_default.field-0 (g.N.Nine.at c.copy_fid.new.nine)
    (tells_as _ _ _ (g.N.Nine.at c.args.nine.now) (g.N.Nine.at c.copy_fid.new.nine) c.in_default.is
    (fid_tells c.in_ok-copied.ensures.answer _ c.requires.is_open))) c.in_ok-attr.field-0
    (fid_tells c.in_ok-attr.ensures.answer (closed c.args.qid.path) (copy_at (g.N.Nine.at c.args.nine.now) c.requires (g.met.N.Nine.good c.args.nine.now) _
    (copy_is (g.N.Nine.at c.args.nine.now) c.requires (g.met.N.Nine.good c.args.nine.now) c.in_default.field-0 (g.N.Nine.at c.copy_fid.new.nine)
    (tells_as _ _ _ (g.N.Nine.at c.args.nine.now) (g.N.Nine.at c.copy_fid.new.nine) c.in_default.is
    (fid_tells c.in_ok-copied.ensures.answer _ c.requires.is_open))))))
    c.in_ok-clunk-in-Err-2.ensures.gone.state)
    c.in_ok-clunk-in-Err-2-2.ensures.gone.state)
    (let rose = f.0 in let a = c.in_ok-copied.ensures.kept.rises in
    let b = c.in_ok-clunk-in-Err-2.ensures.kept.rises in
    let d = c.in_ok-clunk-in-Err-2-2.ensures.kept.rises in omega (arith, rose, a, b, d))
    f.1
