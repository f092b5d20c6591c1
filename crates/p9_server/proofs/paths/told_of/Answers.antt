-- Of a held inode a host fails to tell by a fault alone.
use Rattle.std.proofs.Common.{◌∙◌, ap}
use Rattle.tree_model.specs.Tree.{keep}
use Rattle.tree_host.specs.Holds.{is_held}
use Rattle.fid_model.proofs.Keeping.{keep_same}
use Rattle.p9_server.proofs.Taking.{only_fault}
use Rattle.p9_server.proofs.paths.told_of.Goals as goal

pub returns-in-Err-clause-error : goal.returns-in-Err-clause-error
returns-in-Err-clause-error g c =
    let h = c.args.host.now in
    only_fault (g.H.Host.tree h) (g.H.Host.holds h) c.args.ino (g.met.H.Host.stored h).stored
    c.requires c.in-Err.e c.in-Err.ensures.answer c.in-Err.ensures.memory

pub returns-in-Err-clause-kept : goal.returns-in-Err-clause-kept
returns-in-Err-clause-kept g c kept =
    let e = c.in-Err.ensures in
    let held = is_held (g.H.Host.holds c.release.new.self) in
    c.release.ensures.tree ∙ ap (keep held) e.tree
    ∙ keep_same (g.H.Host.tree c.args.host.now) held kept
