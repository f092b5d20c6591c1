-- A handle is refused that isn't there; else its fid goes, and the handle with it.
use Rattle.std.proofs.Common.{◌≤◌, sym, ap, ◌∙◌, subst, arith}
use Rattle.fuse_gate.specs.Changes.{without_handle}
use Rattle.fuse_gate.specs.declared.gate.Gate.{Gate}
use Rattle.fuse_wire.specs.Request.{release}
use Rattle.fuse_gate.proofs.Asking.{on_err}
use Rattle.fuse_gate.proofs.Standings.{handle_below, none_there, some_there}
use Rattle.fuse_gate.proofs.Serving.{refused_before}
use Rattle.fuse_gate.proofs.Going.{some_used}
use Rattle.fuse_gate.proofs.LettingGo.{handle_refused, release_known, release_part}
use Rattle.fuse_gate.proofs.gate.Gate.release.Goals as goal

pub returns-then-not-contains_key-clause-served : goal.returns-then-not-contains_key-clause-served
returns-then-not-contains_key-clause-served g c =
    refused_before c.requires (g.met.N.Nine.good c.args.nine.now) 0 (release c.args.handle) _
    (handle_refused (g.N.Nine.at c.args.nine.now) c.requires (g.met.N.Nine.good c.args.nine.now)
    c.args.handle (none_there _ (sym c.if-not-contains_key.ensures)))

pub overflow_cast-handle : goal.overflow_cast-handle
overflow_cast-handle g c = let h = some_there _ (sym c.if-not-contains_key.ensures) in let low =
    handle_below c.requires c.args.handle h.0 h.1 in omega arith

pub returns-in_err-clunk-clause-unfinished : goal.returns-in_err-clunk-clause-unfinished
returns-in_err-clunk-clause-unfinished g c =
    let h = some_there _ (sym c.if-not-contains_key.ensures) in
    on_err c.from_residual.result _ (release_part (g.N.Nine.at c.args.nine.now) c.requires
    (g.met.N.Nine.good c.args.nine.now) c.args.handle h.0 h.1 (g.N.Nine.at c.clunk.new.nine)
    c.in_err-clunk.ensures.unfinished)

pub remove_handle-requires : goal.remove_handle-requires
remove_handle-requires g c =
    let h = some_there _ (sym c.if-not-contains_key.ensures) in
    let some = some_used c.requires c.args.handle h.0 h.1 in
    subst (λ (x : Gate). 1 ≤ x.used) (sym c.count_message.ensures) some

pub returns-clause-served : goal.returns-clause-served
returns-clause-served g c =
    let h = some_there _ (sym c.if-not-contains_key.ensures) in
    release_known (g.N.Nine.at c.args.nine.now) c.requires (g.met.N.Nine.good c.args.nine.now)
    c.args.handle h.0 h.1 _ (g.N.Nine.at c.clunk.new.nine)
    (c.remove_handle.ensures ∙ ap (λ (x : Gate). without_handle x c.args.handle)
    c.count_message.ensures) c.in_ok-clunk.ensures.gone.asked c.in_ok-clunk.ensures.gone.state
