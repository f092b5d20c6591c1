-- Of a held inode a host fails to tell by a fault alone.
use Rattle.std.proofs.Common.{ℕ, Result}
use Rattle.tree_model.specs.Tree.{body_at, is_directory_at}
use Rattle.tree_model.specs.Opening.{unless}
use Rattle.tree_model.specs.declared.attributes.HostError.{HostError}
use Rattle.tree_host.specs.Host.{Answers}
use Rattle.fid_model.specs.Files.{new_file_refused}
use Rattle.p9_server.proofs.Showing.{passed_on}
use Rattle.p9_server.proofs.Taking.{only_fault, fault_answers}
use Rattle.p9_server.proofs.server.create.check_new_file.Goals as goal

pub returns-in_err-attr-clause-answer : goal.returns-in_err-attr-clause-answer
returns-in_err-attr-clause-answer g c =
    let h = c.args.host.now in
    let told : Result (Unit {0}) ℕ = unless (new_file_refused (is_directory_at
    (body_at (g.H.Host.tree h).records c.args.dir)) c.args.name.now c.args.flags) in
    let e = c.in_err-attr.field-0.0 in
    passed_on (λ (r : Result (Unit {0}) HostError). Answers told r) c.from_residual.result e
    c.from_residual.ensures.1
    (fault_answers told e (only_fault (g.H.Host.tree h) (g.H.Host.holds h) c.args.dir
    (g.met.H.Host.stored h).stored c.requires e c.in_err-attr.ensures.answer
    c.in_err-attr.ensures.memory))
