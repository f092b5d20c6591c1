-- One hold more at most.
use Rattle.std.proofs.Common.{◌≡◌, ℕ, ◌+◌, ◌≤◌, Result, Ok, Err, IfOk, OnErr, ap, arith}
use Rattle.tree_model.specs.declared.attributes.HostError.{HostError}
use Rattle.tree_host.specs.Holds.{Holds, hold_count, held_more}
use Rattle.tree_host.proofs.Held.{hold_count-more_le}
use Rattle.tree_host.proofs.memory.call_tests.enter.Goals as goal

few_more : (h h' : Holds) (held : ℕ) (r : Result ℕ HostError) → IfOk r (λ ino. h' ≡ held_more h ino)
    → OnErr r (h' ≡ h)
    → ((i : ℕ) → hold_count h i ≤ held) → (i : ℕ) → hold_count h' i ≤ held + 1
few_more h h' held (Ok ino) more same few i =
    let le = hold_count-more_le h ino i in
    let is = ap (λ h. hold_count h i) more in
    let low = few i in
    omega arith
few_more h h' held (Err e) more same few i =
    let is = ap (λ h. hold_count h i) same in
    let low = few i in
    omega arith

pub returns : goal.returns
returns g c = few_more c.args.host.now.holds c.lookup.new.self.holds c.args.held c.lookup.result
    c.lookup.ensures.held c.lookup.ensures.refused c.requires.few
