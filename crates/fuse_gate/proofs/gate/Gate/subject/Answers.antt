-- A handle that is given, or the node.
use Rattle.std.proofs.Common.{ℕ, Option, Ok, Err, sym, subst, arith}
use Rattle.port_base.specs.declared.errno.TheConstants.{EBADF, ESTALE}
use Rattle.fuse_gate.specs.Changes.{IsSubject}
use Rattle.fuse_gate.proofs.Standings.{node_below, handle_below, none_there, some_there}
use Rattle.fuse_gate.proofs.Attributes.{node_subject, node_refused, handle_subject, handle_refused}
use Rattle.fuse_gate.proofs.gate.Gate.subject.Goals as goal

pub overflow_cast-result : goal.overflow_cast-result
overflow_cast-result g c = let h = some_there _ (sym c.if-contains_key.ensures) in let low =
    handle_below c.requires c.in-Some.handle h.0 h.1 in omega arith

pub returns-then-contains_key : goal.returns-then-contains_key
returns-then-contains_key g c =
    let h = some_there _ (sym c.if-contains_key.ensures) in
    subst (λ (o : Option ℕ). IsSubject c.args.self.now (g.N.Nine.at c.args.nine.now).state
    c.args.node o (Ok c.in-Some.handle)) (sym c.in-Some.is)
    (handle_subject c.requires c.args.node c.in-Some.handle h.0 h.1)

pub returns-else-contains_key : goal.returns-else-contains_key
returns-else-contains_key g c =
    subst (λ (o : Option ℕ). IsSubject c.args.self.now (g.N.Nine.at c.args.nine.now).state
    c.args.node o (Err EBADF)) (sym c.in-Some.is)
    (handle_refused c.requires c.args.node c.in-Some.handle
    (none_there _ (sym c.if-contains_key.ensures)))

pub overflow_cast-result-then-contains_key-2 : goal.overflow_cast-result-then-contains_key-2
overflow_cast-result-then-contains_key-2 g c = let k =
    some_there _ (sym c.if-contains_key-2.ensures) in let low =
    node_below c.requires c.args.node k.0 k.1 in omega arith

pub returns-then-contains_key-2 : goal.returns-then-contains_key-2
returns-then-contains_key-2 g c =
    let k = some_there _ (sym c.if-contains_key-2.ensures) in
    subst (λ (o : Option ℕ). IsSubject c.args.self.now (g.N.Nine.at c.args.nine.now).state
    c.args.node o (Ok c.args.node)) (sym c.in-None.is)
    (node_subject c.requires c.args.node k.0 k.1)

pub returns-else-contains_key-2 : goal.returns-else-contains_key-2
returns-else-contains_key-2 g c =
    subst (λ (o : Option ℕ). IsSubject c.args.self.now (g.N.Nine.at c.args.nine.now).state
    c.args.node o (Err ESTALE)) (sym c.in-None.is)
    (node_refused c.requires c.args.node (none_there _ (sym c.if-contains_key-2.ensures)))
