-- The refusal; or the steps, and then the attributes.
use Rattle.std.proofs.Common.{ℕ, Option, Ok, Err, ap, subst, ◌∙◌}
use Rattle.std.specs.FinMap.{get}
use Rattle.fuse_wire.specs.Request.{setattr}
use Rattle.p9_tmsg.specs.declared.message.Tsetattr.{Tsetattr}
use Rattle.fid_model.specs.Fids.{ServerState}
use Rattle.p9_client.specs.Changing.{FrontOrTold, changes_of}
use Rattle.fuse_gate.specs.Changes.{IsSubject}
use Rattle.fuse_gate.specs.Setting.{set_message}
use Rattle.fuse_gate.proofs.Asking.{fid_tells, on_err, tells_as}
use Rattle.fuse_gate.proofs.Serving.{refused_before}
use Rattle.fuse_gate.proofs.SettingAttributes.{asks_of, part_after, set_part, set_refused, set_served}
use Rattle.fuse_gate.proofs.SettingAttributes.{set_shown, set_whole, was_done}
use Rattle.fuse_gate.proofs.gate.Gate.setattr.Goals as goal

pub returns-in-Err-clause-served : goal.returns-in-Err-clause-served
returns-in-Err-clause-served g c =
    refused_before c.requires (g.met.N.Nine.good c.args.nine.now) c.args.node
    (setattr c.args.asked) _
    (subst (λ (o : Option ℕ). IsSubject c.args.self.now (g.N.Nine.at c.args.nine.now).state
    c.args.node o (Err c.in-Err.errno)) c.given_handle.ensures c.in-Err.ensures)

pub returns-in_err-told-clause-unfinished : goal.returns-in_err-told-clause-unfinished
returns-in_err-told-clause-unfinished g c =
    let n = g.N.Nine.at c.args.nine.now in
    let k = subst (λ (o : Option ℕ). IsSubject c.args.self.now n.state c.args.node o
    (Ok c.in-Ok.fid)) c.given_handle.ensures c.in-Ok.ensures in
    on_err c.from_residual.result _
    (set_part n c.requires (g.met.N.Nine.good c.args.nine.now) c.args.node c.in-Ok.fid c.args.asked
    k.1.0 k.1.1 k.1.2 k.1.3 k.0 _
    (subst (λ (m : Tsetattr). FrontOrTold n.state (changes_of m) m.fid n.state.tree
    (g.N.Nine.at c.set_attr.new.nine).state.tree) c.set_message.ensures
    c.in_err-told.ensures.unfinished))

pub returns-in-Err-told-clause-served : goal.returns-in-Err-told-clause-served
returns-in-Err-told-clause-served g c =
    let n = g.N.Nine.at c.args.nine.now in
    let n1 = g.N.Nine.at c.set_attr.new.nine in
    let good = g.met.N.Nine.good c.args.nine.now in
    let k = subst (λ (o : Option ℕ). IsSubject c.args.self.now n.state c.args.node o
    (Ok c.in-Ok.fid)) c.given_handle.ensures c.in-Ok.ensures in
    set_served n c.requires good c.args.node c.in-Ok.fid c.args.asked k.1.0 k.1.1 k.1.2 k.1.3 k.0
    _ _
    (set_refused n c.requires good c.args.node c.in-Ok.fid c.args.asked k.1.0 k.1.1 k.1.2 k.1.3
    k.0 _ n1 c.count_message.ensures c.in_ok-told.ensures.answer.asked _ c.in-Err-told.errno
    c.in-Err-told.is
    (asks_of n n1 _ _ (set_message c.in-Ok.fid c.args.asked) c.set_message.ensures
    c.in_ok-told.ensures.answer.asks))

pub returns-in_err-attr-clause-unfinished : goal.returns-in_err-attr-clause-unfinished
returns-in_err-attr-clause-unfinished g c =
    let n = g.N.Nine.at c.args.nine.now in
    let n1 = g.N.Nine.at c.set_attr.new.nine in
    let good = g.met.N.Nine.good c.args.nine.now in
    let k = subst (λ (o : Option ℕ). IsSubject c.args.self.now n.state c.args.node o
    (Ok c.in-Ok.fid)) c.given_handle.ensures c.in-Ok.ensures in
    let w = set_whole n c.requires good c.args.node c.in-Ok.fid c.args.asked k.1.0 k.1.1 k.1.2
    k.1.3 k.0 _ n1 c.count_message.ensures c.in_ok-told.ensures.answer.asked _
    (was_done _ c.in_default.not-Err)
    (asks_of n n1 _ _ (set_message c.in-Ok.fid c.args.asked) c.set_message.ensures
    c.in_ok-told.ensures.answer.asks) in
    on_err c.from_residual-in_err-attr.result _
    (part_after n c.requires good c.args.node c.in-Ok.fid c.args.asked k.1.0 k.1.1 k.1.2 k.1.3 k.0
    _ (c.in_err-attr.ensures.unfinished ∙ ap (λ (s : ServerState). s.tree) w.1))

pub returns-in-Ok-2-clause-served : goal.returns-in-Ok-2-clause-served
returns-in-Ok-2-clause-served g c =
    let n = g.N.Nine.at c.args.nine.now in
    let n1 = g.N.Nine.at c.set_attr.new.nine in
    let n2 = g.N.Nine.at c.show.new.nine in
    let good = g.met.N.Nine.good c.args.nine.now in
    let k = subst (λ (o : Option ℕ). IsSubject c.args.self.now n.state c.args.node o
    (Ok c.in-Ok.fid)) c.given_handle.ensures c.in-Ok.ensures in
    let w = set_whole n c.requires good c.args.node c.in-Ok.fid c.args.asked k.1.0 k.1.1 k.1.2
    k.1.3 k.0 _ n1 c.count_message.ensures c.in_ok-told.ensures.answer.asked _
    (was_done _ c.in_default.not-Err)
    (asks_of n n1 _ _ (set_message c.in-Ok.fid c.args.asked) c.set_message.ensures
    c.in_ok-told.ensures.answer.asks) in
    set_served n c.requires good c.args.node c.in-Ok.fid c.args.asked k.1.0 k.1.1 k.1.2 k.1.3 k.0
    _ _
    (set_shown n c.requires good c.args.node c.in-Ok.fid c.args.asked k.1.0 k.1.1 k.1.2 k.1.3
    k.0 _ n1 c.count_message.ensures c.in_ok-told.ensures.answer.asked w.0 w.1
    c.in_ok-told.ensures.kept.rises _ n2 c.in_ok-attr.ensures.counted
    c.in_ok-attr.ensures.answer.asked c.in_ok-attr.ensures.kept.rises (Ok c.in-Ok-2.attr)
    (tells_as _ _ _ n1 n2 c.in-Ok-2.is
    (fid_tells c.in_ok-attr.ensures.answer k.1.0
    (ap (λ (s : ServerState). get s.fids c.in-Ok.fid) w.1 ∙ k.1.1))))

pub returns-in-Err-2-clause-served : goal.returns-in-Err-2-clause-served
returns-in-Err-2-clause-served g c =
    let n = g.N.Nine.at c.args.nine.now in
    let n1 = g.N.Nine.at c.set_attr.new.nine in
    let n2 = g.N.Nine.at c.show.new.nine in
    let good = g.met.N.Nine.good c.args.nine.now in
    let k = subst (λ (o : Option ℕ). IsSubject c.args.self.now n.state c.args.node o
    (Ok c.in-Ok.fid)) c.given_handle.ensures c.in-Ok.ensures in
    let w = set_whole n c.requires good c.args.node c.in-Ok.fid c.args.asked k.1.0 k.1.1 k.1.2
    k.1.3 k.0 _ n1 c.count_message.ensures c.in_ok-told.ensures.answer.asked _
    (was_done _ c.in_default.not-Err)
    (asks_of n n1 _ _ (set_message c.in-Ok.fid c.args.asked) c.set_message.ensures
    c.in_ok-told.ensures.answer.asks) in
    set_served n c.requires good c.args.node c.in-Ok.fid c.args.asked k.1.0 k.1.1 k.1.2 k.1.3 k.0
    _ _
    (set_shown n c.requires good c.args.node c.in-Ok.fid c.args.asked k.1.0 k.1.1 k.1.2 k.1.3
    k.0 _ n1 c.count_message.ensures c.in_ok-told.ensures.answer.asked w.0 w.1
    c.in_ok-told.ensures.kept.rises _ n2 c.in_ok-attr.ensures.counted
    c.in_ok-attr.ensures.answer.asked c.in_ok-attr.ensures.kept.rises (Err c.in-Err-2.errno)
    (tells_as _ _ _ n1 n2 c.in-Err-2.is
    (fid_tells c.in_ok-attr.ensures.answer k.1.0
    (ap (λ (s : ServerState). get s.fids c.in-Ok.fid) w.1 ∙ k.1.1))))
