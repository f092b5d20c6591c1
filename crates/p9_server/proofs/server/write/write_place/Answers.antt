-- Of a held inode a host fails to tell by a fault alone.
use Rattle.std.proofs.Common.{◌<◌, sym, subst, ℕ, Result, Ok}
use Rattle.tree_model.specs.declared.attributes.HostError.{HostError}
use Rattle.tree_host.specs.Holds.{hold_count}
use Rattle.tree_host.specs.Host.{Answers}
use Rattle.fid_model.specs.Files.{write_place}
use Rattle.p9_server.proofs.Showing.{passed_on}
use Rattle.p9_server.proofs.Taking.{only_fault, fault_answers}
use Rattle.p9_server.proofs.server.write.write_place.Goals as goal

pub returns-in_err-attr-clause-answer : goal.returns-in_err-attr-clause-answer
returns-in_err-attr-clause-answer g c =
    let h = c.args.host.now in
    let told : Result ℕ ℕ = Ok (write_place (g.H.Host.tree h) c.args.state.now c.args.offset) in
    let e = c.in_err-attr.field-0.0 in
    passed_on (λ (r : Result ℕ HostError). Answers told r) c.from_residual.result e
    c.from_residual.ensures.1
    (fault_answers told e
    (only_fault (g.H.Host.tree h) (g.H.Host.holds h) c.ino.result (g.met.H.Host.stored h).stored
    (subst (λ i. 0 < hold_count (g.H.Host.holds h) i) (sym c.ino.ensures) c.requires) e
    c.in_err-attr.ensures.answer c.in_err-attr.ensures.memory))
