-- Pair by pair, until fewer than 16 bytes are left.
use Rattle.std.proofs.Common.{◌≡◌, ℕ, List, sym, ap, ◌∙◌, subst}
use Rattle.fuse_wire.specs.declared.request.ForgetOne.{ForgetOne}
use Rattle.tree_machine.specs.Forgetting.{pair_of}
use Rattle.fuse_gate.proofs.Asking.{on_err}
use Rattle.fuse_gate.proofs.Batching.{Batching, Batching-none, Batching-more, Batching-part}
use Rattle.fuse_gate.proofs.Batching.{Batching-whole}
use Rattle.fuse_gate.proofs.gate.Gate.forget_all.Goals as goal

-- the pair that was read
pair_is : (one : ForgetOne) (bytes front : List ℕ)
    → one ≡ record { nodeid = (pair_of bytes).0; nlookup = (pair_of bytes).1 } → bytes ≡ front
    → (one.nodeid, one.nlookup) ≡ pair_of front
pair_is one bytes front read is = ap (λ (x : ForgetOne). (x.nodeid, x.nlookup)) read ∙ ap pair_of is

pub loop-rest-init : goal.loop-rest-init
loop-rest-init g c = Batching-none c.args.self.now (g.N.Nine.at c.args.nine.now) c.args.pairs.now
    c.requires (g.met.N.Nine.good c.args.nine.now)

pub loop-rest-preserved : goal.loop-rest-preserved
loop-rest-preserved g c =
    subst (Batching c.args.self.now (g.N.Nine.at c.args.nine.now) c.forget.new.self
    (g.N.Nine.at c.forget.new.nine) c.args.pairs.now) (sym c.split_at.ensures.back)
    (Batching-more (g.met.N.Nine.good c.args.nine.now).tree c.loop-rest.invariant
    (c.read-one.result.nodeid, c.read-one.result.nlookup) c.loop-rest-test.true
    (pair_is c.read-one.result _ _ c.read-one.ensures c.split_at.ensures.front)
    c.forget.new.self (g.N.Nine.at c.forget.new.nine) c.in_ok-forget.ensures.gone
    c.in_ok-forget.ensures.kept)

pub returns-in_err-forget-clause-unfinished : goal.returns-in_err-forget-clause-unfinished
returns-in_err-forget-clause-unfinished g c =
    on_err c.from_residual.result _
    (Batching-part (g.met.N.Nine.good c.args.nine.now).tree c.loop-rest.invariant
    (c.read-one.result.nodeid, c.read-one.result.nlookup) c.loop-rest-test.true
    (pair_is c.read-one.result _ _ c.read-one.ensures c.split_at.ensures.front) _
    c.in_err-forget.ensures.unfinished)

pub returns-clause-gone : goal.returns-clause-gone
returns-clause-gone g c = Batching-whole (g.met.N.Nine.good c.args.nine.now).tree
    c.loop-rest.invariant c.loop-rest-test.false
