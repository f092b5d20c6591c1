-- Each name takes the walk a step on, or ends it with all holds let go.
use Rattle.tree_host.specs.Calls.{Calls}
use Rattle.std.proofs.Common.{◌≡◌, ◌∙◌, ℕ, List, [], ◌∷◌, ◌++◌, map, ap, sym, subst, arith, get_or}
use Rattle.tree_model.specs.Attributes.{Qid}
use Rattle.p9_wire.specs.Qids.{qid_of as qid_plain}
use Rattle.p9_server.proofs.Taking.{failed_cause}
use Rattle.p9_server.proofs.Walks.{walking_more, walked_kept, stopped_holds, stopped_kept}
use Rattle.p9_server.proofs.Walks.{stopped_walks}
use Rattle.p9_server.proofs.paths.walk.Goals as goal

pub returns-in-Err : goal.returns-in-Err
returns-in-Err g c =
    let l = c.loop-walked in
    let w = l.invariant.walking in
    let e = c.in-Err.ensures in
    let d = c.let_go-in-Err.ensures in
    let P : List ℕ → Type 0 = λ n. n ≡ get_or c.args.names.now l.walked n in
    let is = subst P (sym c.as_bytes.ensures.bytes) c.index-names-walked.is in
    let here = c.loop-walked-test.true in
    let kept = (g.met.H.Host.stored c.args.host.now).kept in
    let h1 = g.H.Host.holds c.step_to.new.host in
    let h2 = g.H.Host.holds c.let_go-in-Err.new.host in
    record {
      answer = stopped_walks w c.as_bytes.result.now here is c.in-Err.e e.answer;
      count = let had = w.count in omega arith;
      spells = l.invariant.spells;
      tree = d.kept (stopped_kept w c.as_bytes.result.now here is h1 h2 e.refused d.released
          (g.H.Host.tree c.step_to.new.host) kept e.tree) ∙ e.tree ∙ w.tree;
      held = tt;
      refused = stopped_holds w c.as_bytes.result.now here is h1 h2 e.refused d.released;
      cause = failed_cause (g.H.Host.calls c.args.host.now).steady (g.H.Host.calls l.host).steady
          (g.H.Host.calls c.args.host.now).faults (g.H.Host.calls l.host).faults
          (g.H.Host.calls c.step_to.new.host).faults
          (g.H.Host.calls c.let_go-in-Err.new.host).faults
          c.in-Err.e l.invariant.steady l.invariant.faults (ap (λ (k : Calls). k.faults) d.calls)
          e.cause;
      steady = ap (λ (k : Calls). k.steady) d.calls ∙ e.steady ∙ l.invariant.steady;
    }

pub loop-walked-preserved : goal.loop-walked-preserved
loop-walked-preserved g c =
    let l = c.loop-walked in
    let w = l.invariant.walking in
    let e = c.in-Ok.ensures in
    let d = c.let_go.ensures in
    let P : List ℕ → Type 0 = λ n. n ≡ get_or c.args.names.now l.walked n in
    let is = subst P (sym c.as_bytes.ensures.bytes) c.index-names-walked.is in
    let here = c.loop-walked-test.true in
    let kept = (g.met.H.Host.stored c.args.host.now).kept in
    let t1 = g.H.Host.tree c.step_to.new.host in
    let t2 = g.H.Host.tree c.let_go.new.host in
    let h1 = g.H.Host.holds c.step_to.new.host in
    let h2 = g.H.Host.holds c.let_go.new.host in
    record {
      walking = walking_more w c.as_bytes.result.now here is c.in-Ok.attr t1 t2 h1 h2 e.answer
          e.held d.released c.push_qid.new.qids.items
          (c.push_qid.ensures.items ∙ ap (λ (q : Qid). map qid_plain l.qids.items ++ (q ∷ []))
          c.qid_of.ensures)
          (d.kept (walked_kept w c.as_bytes.result.now here is c.in-Ok.attr t1 t2 h1 h2 e.answer
          e.held d.released kept e.tree) ∙ e.tree ∙ w.tree);
      spells = c.push_qid.ensures.spells;
      room = let more = c.push_qid.ensures.capacity in let had = l.invariant.room in omega arith;
      faults = ap (λ (k : Calls). k.faults) d.calls ∙ e.cause.counted ∙ l.invariant.faults;
      steady = ap (λ (k : Calls). k.steady) d.calls ∙ e.steady ∙ l.invariant.steady;
    }
