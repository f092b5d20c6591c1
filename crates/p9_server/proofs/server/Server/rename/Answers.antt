-- A name moves, or all is as it was.
use Rattle.std.proofs.Common.{refl, sym, ap, ◌∙◌, ℕ, Bool, List, Result}
use Rattle.tree_model.specs.Tree.{Tree}
use Rattle.tree_model.specs.Renaming.{rename_of}
use Rattle.p9_tmsg.specs.Messages.Message.{renameat}
use Rattle.p9_rmsg.specs.Replies.{Reply}
use Rattle.p9_rmsg.specs.Replies.Reply.{renameat as moved}
use Rattle.std.specs.FinMap.{get}
use Rattle.fid_model.specs.TreeCalls.{at_fid, tree_answer, unless_fault}
use Rattle.fid_model.specs.Directories.{renameat_told}
use Rattle.fid_model.specs.Fids.{ServerState, is_held as is_named}
use Rattle.tree_host.specs.Holds.{is_held}
use Rattle.p9_server.specs.Steps.{server_state}
use Rattle.p9_server.proofs.HoldCounts.{kept_named}
use Rattle.p9_server.proofs.Showing.{named_held, stopped_step}
use Rattle.p9_server.proofs.TreeSteps.{at_known, at_named, at_unknown, at_unnamed, good_name}
use Rattle.p9_server.proofs.TreeSteps.{held_alike, kept_after, name_checked, name_unchecked}
use Rattle.p9_server.proofs.TreeSteps.{passed_step, refused_step}
use Rattle.p9_server.proofs.server.Server.rename.Goals as goal

abbrev moves : Unit {0} → Reply
moves u = moved

-- what a rename tells, from the directory of a fid that is there
abbrev to : ServerState → List ℕ → ℕ → List ℕ → ℕ → Result (Unit {0} × Tree) ℕ
to s oldname newdirfid newname olddir = at_fid (get s.fids newdirfid)
    (λ newdir. unless_fault oldname (unless_fault newname
    (rename_of (is_named s.fids) s.tree olddir oldname newdir newname)))

pub returns-in_err-olddir-clause-step : goal.returns-in_err-olddir-clause-step
returns-in_err-olddir-clause-step g c =
    let s = c.args.self.now in
    let tree = g.H.Host.tree s.host in
    let a = c.args in
    let before = server_state tree s.fids s.msize s.share in
    stopped_step c.from_residual.result c.in_err-olddir.field-0.0 c.from_residual.ensures.1
    (refused_step (renameat a.olddirfid a.oldname.now a.newdirfid a.newname.now) moves moves tree
    s.fids s.msize s.share (g.H.Host.calls s.host).steady
    (renameat_told before a.olddirfid a.oldname.now a.newdirfid a.newname.now) refl
    (kept_named (g.H.Host.holds s.host) s.fids s.sound.held tree (g.met.H.Host.stored s.host).kept)
    c.in_err-olddir.field-0.0
    (at_unknown s.fids a.olddirfid (to before a.oldname.now a.newdirfid a.newname.now) c.in_err-olddir.field-0.0
    c.in_err-olddir.ensures) (g.H.Host.calls s.host).faults)

pub returns-in_err-newdir-clause-step : goal.returns-in_err-newdir-clause-step
returns-in_err-newdir-clause-step g c =
    let s = c.args.self.now in
    let tree = g.H.Host.tree s.host in
    let a = c.args in
    let before = server_state tree s.fids s.msize s.share in
    stopped_step c.from_residual-in_err-newdir.result c.in_err-newdir.field-0.0 c.from_residual-in_err-newdir.ensures.1
    (refused_step (renameat a.olddirfid a.oldname.now a.newdirfid a.newname.now) moves moves tree
    s.fids s.msize s.share (g.H.Host.calls s.host).steady
    (to before a.oldname.now a.newdirfid a.newname.now c.in_ok-olddir.olddir)
    (ap (tree_answer before moves) (at_known s.fids a.olddirfid
    (to before a.oldname.now a.newdirfid a.newname.now) c.in_ok-olddir.olddir c.in_ok-olddir.ensures))
    (kept_named (g.H.Host.holds s.host) s.fids s.sound.held tree (g.met.H.Host.stored s.host).kept)
    c.in_err-newdir.field-0.0
    (at_unnamed s.fids a.newdirfid (λ newdir. unless_fault a.newname.now
    (rename_of (is_named s.fids) tree c.in_ok-olddir.olddir a.oldname.now newdir a.newname.now))
    a.oldname.now c.in_err-newdir.field-0.0 c.in_err-newdir.ensures) (g.H.Host.calls s.host).faults)

pub rename-requires-clause-from : goal.rename-requires-clause-from
rename-requires-clause-from g c = let s = c.args.self.now in named_held (g.H.Host.holds s.host)
    s.fids s.sound.held c.args.olddirfid c.in_ok-olddir.olddir c.in_ok-olddir.ensures

pub rename-requires-clause-to : goal.rename-requires-clause-to
rename-requires-clause-to g c =
    let s = c.args.self.now in
    named_held (g.H.Host.holds s.host) s.fids s.sound.held c.args.newdirfid c.in_ok-newdir.newdir
    (good_name s.fids c.args.newdirfid c.args.oldname.now c.in_ok-newdir.newdir
    c.in_ok-newdir.ensures).1

pub returns-clause-step : goal.returns-clause-step
returns-clause-step g c =
    let s = c.args.self.now in
    let n = c.rename.new.self in
    let tree = g.H.Host.tree s.host in
    let a = c.args in
    let e = c.rename.ensures in
    let held = is_held (g.H.Host.holds s.host) in
    let before = server_state tree s.fids s.msize s.share in
    let moving : ℕ → ℕ → Result (Unit {0} × Tree) ℕ =
    λ olddir newdir. rename_of (is_named s.fids) tree olddir a.oldname.now newdir a.newname.now
    in
    passed_step (renameat a.olddirfid a.oldname.now a.newdirfid a.newname.now) moves tree s.fids
    s.msize s.share (g.H.Host.calls s.host).steady
    (rename_of held tree c.in_ok-olddir.olddir a.oldname.now c.in_ok-newdir.newdir a.newname.now)
    (ap (tree_answer before moves) (at_known s.fids a.olddirfid
    (to before a.oldname.now a.newdirfid a.newname.now) c.in_ok-olddir.olddir c.in_ok-olddir.ensures
    ∙ at_named s.fids a.newdirfid (λ newdir. unless_fault a.newname.now
    (moving c.in_ok-olddir.olddir newdir)) a.oldname.now c.in_ok-newdir.newdir c.in_ok-newdir.ensures
    ∙ (name_checked a.newname.now (moving c.in_ok-olddir.olddir c.in_ok-newdir.newdir)
    c.in_ok-check_name.ensures).1
    ∙ sym (ap (λ (h : ℕ → Bool). rename_of h tree c.in_ok-olddir.olddir a.oldname.now
    c.in_ok-newdir.newdir a.newname.now)
    (held_alike (g.H.Host.holds s.host) s.fids s.sound.held))))
    (kept_named (g.H.Host.holds s.host) s.fids s.sound.held tree (g.met.H.Host.stored s.host).kept)
    refl (g.H.Host.tree n) (g.H.Host.calls s.host).faults (g.H.Host.calls n).faults
    (kept_after (g.H.Host.holds s.host) (g.H.Host.holds n) e.holds s.fids s.sound.held
    (g.H.Host.tree n) (g.met.H.Host.stored n).kept)
    c.rename.result e.leaves e.caused.cause

pub returns-in_err-check_name-clause-step : goal.returns-in_err-check_name-clause-step
returns-in_err-check_name-clause-step g c =
    let s = c.args.self.now in
    let tree = g.H.Host.tree s.host in
    let a = c.args in
    let before = server_state tree s.fids s.msize s.share in
    let moving : ℕ → ℕ → Result (Unit {0} × Tree) ℕ =
    λ olddir newdir. rename_of (is_named s.fids) tree olddir a.oldname.now newdir a.newname.now
    in
    stopped_step c.from_residual-in_err-check_name.result c.in_err-check_name.field-0.0 c.from_residual-in_err-check_name.ensures.1
    (refused_step (renameat a.olddirfid a.oldname.now a.newdirfid a.newname.now) moves moves tree
    s.fids s.msize s.share (g.H.Host.calls s.host).steady
    (unless_fault a.newname.now (moving c.in_ok-olddir.olddir c.in_ok-newdir.newdir))
    (ap (tree_answer before moves) (at_known s.fids a.olddirfid
    (to before a.oldname.now a.newdirfid a.newname.now) c.in_ok-olddir.olddir c.in_ok-olddir.ensures
    ∙ at_named s.fids a.newdirfid (λ newdir. unless_fault a.newname.now
    (moving c.in_ok-olddir.olddir newdir)) a.oldname.now c.in_ok-newdir.newdir
    c.in_ok-newdir.ensures))
    (kept_named (g.H.Host.holds s.host) s.fids s.sound.held tree (g.met.H.Host.stored s.host).kept)
    c.in_err-check_name.field-0.0
    (name_unchecked a.newname.now (moving c.in_ok-olddir.olddir c.in_ok-newdir.newdir)
    c.in_err-check_name.field-0.0 c.in_err-check_name.ensures) (g.H.Host.calls s.host).faults)
