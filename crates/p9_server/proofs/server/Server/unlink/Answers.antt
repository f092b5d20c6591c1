-- A name goes, or all is as it was.
use Rattle.std.proofs.Common.{refl, sym, ap, arith, ◌∙◌, ◌≡◌, ◌≢◌, ℕ, Bool, false, cond, List}
use Rattle.std.proofs.Common.{Result, Err}
use Rattle.std.specs.Prelude.{◌==◌}
use Rattle.std.proofs.lemmas.Bool.Decides.{nat_tests}
use Rattle.tree_model.specs.declared.attributes.HostError.TheVariants.{Errno}
use Rattle.tree_model.specs.Tree.{Tree}
use Rattle.tree_model.specs.Unlinking.{unlink_of, rmdir_of}
use Rattle.p9_tmsg.specs.Messages.Message.{unlinkat}
use Rattle.p9_rmsg.specs.Replies.{Reply}
use Rattle.p9_rmsg.specs.Replies.Reply.{unlinkat as unlinked}
use Rattle.fid_model.specs.TreeCalls.{tree_answer}
use Rattle.fid_model.specs.Directories.{removed_by, unlinkat_told}
use Rattle.fid_model.specs.Fids.{is_held as is_named}
use Rattle.tree_host.specs.Holds.{is_held}
use Rattle.p9_server.specs.Steps.{server_state}
use Rattle.p9_server.proofs.HoldCounts.{kept_named}
use Rattle.p9_server.proofs.Showing.{named_held, stopped_step}
use Rattle.p9_server.proofs.TreeSteps.{at_named, at_unnamed, good_name, held_alike, kept_after}
use Rattle.p9_server.proofs.TreeSteps.{passed_step, refused_step}
use Rattle.p9_server.proofs.server.Server.unlink.Goals as goal

abbrev unlinks : Unit {0} → Reply
unlinks u = unlinked

pub returns-in_err-dir-clause-step : goal.returns-in_err-dir-clause-step
returns-in_err-dir-clause-step g c =
    let s = c.args.self.now in
    let tree = g.H.Host.tree s.host in
    let a = c.args in
    stopped_step c.from_residual.result c.in_err-dir.field-0.0 c.from_residual.ensures.1
    (refused_step (unlinkat a.dirfd a.name.now a.flags) unlinks unlinks tree s.fids s.msize s.share
    (g.H.Host.calls s.host).steady (unlinkat_told (server_state tree s.fids s.msize s.share)
    a.dirfd a.name.now a.flags) refl
    (kept_named (g.H.Host.holds s.host) s.fids s.sound.held tree (g.met.H.Host.stored s.host).kept)
    c.in_err-dir.field-0.0
    (at_unnamed s.fids a.dirfd (λ dir. removed_by a.flags (is_named s.fids) tree dir a.name.now)
    a.name.now c.in_err-dir.field-0.0 c.in_err-dir.ensures) (g.H.Host.calls s.host).faults)

pub unlink-requires : goal.unlink-requires
unlink-requires g c =
    let s = c.args.self.now in
    let good = good_name s.fids c.args.dirfd c.args.name.now c.in_ok-dir.dir c.in_ok-dir.ensures in
    record {
      held = named_held (g.H.Host.holds s.host) s.fids s.sound.held c.args.dirfd c.in_ok-dir.dir
          good.1;
      named = good.0;
    }

pub rmdir-requires : goal.rmdir-requires
rmdir-requires g c =
    let s = c.args.self.now in
    let good = good_name s.fids c.args.dirfd c.args.name.now c.in_ok-dir.dir c.in_ok-dir.ensures in
    record {
      held = named_held (g.H.Host.holds s.host) s.fids s.sound.held c.args.dirfd c.in_ok-dir.dir
          good.1;
      named = good.0;
    }

abbrev removing : (ℕ → Bool) → Tree → ℕ → List ℕ → ℕ → Result (Unit {0} × Tree) ℕ
removing held t dir name flags = removed_by flags held t dir name

-- no flags
plain : (held : ℕ → Bool) (t : Tree) (dir : ℕ) (name : List ℕ) (flags : ℕ) → flags ≡ 0
    → removed_by flags held t dir name ≡ unlink_of held t dir name
plain held t dir name flags none = ap (removing held t dir name) none

-- that of a directory
whole : (held : ℕ → Bool) (t : Tree) (dir : ℕ) (name : List ℕ) (flags : ℕ) → flags ≡ 512
    → removed_by flags held t dir name ≡ rmdir_of held t dir name
whole held t dir name flags is = ap (removing held t dir name) is

-- others
other_by : (a b : Bool) (x y : Result (Unit {0} × Tree) ℕ) → a ≡ false → b ≡ false
    → cond a x (cond b y (Err 22)) ≡ Err 22
other_by a b x y na nb = ap (λ a. cond a x (cond b y (Err 22))) na ∙ ap (λ b. cond b y (Err 22)) nb

other : (held : ℕ → Bool) (t : Tree) (dir : ℕ) (name : List ℕ) (flags : ℕ) → flags ≢ 0 → flags ≢ 512
    → removed_by flags held t dir name ≡ Err 22
other held t dir name flags some more = other_by (flags == 0) (flags == 512)
    (unlink_of held t dir name) (rmdir_of held t dir name) (grind (arith, nat_tests))
    (grind (arith, nat_tests))

pub returns-then-flags-eq0-clause-step : goal.returns-then-flags-eq0-clause-step
returns-then-flags-eq0-clause-step g c =
    let s = c.args.self.now in
    let n = c.unlink.new.self in
    let tree = g.H.Host.tree s.host in
    let a = c.args in
    let e = c.unlink.ensures in
    let before = server_state tree s.fids s.msize s.share in
    passed_step (unlinkat a.dirfd a.name.now a.flags) unlinks tree s.fids s.msize s.share
    (g.H.Host.calls s.host).steady (unlink_of (is_held (g.H.Host.holds s.host)) tree c.in_ok-dir.dir
    a.name.now)
    (ap (tree_answer before unlinks) (at_named s.fids a.dirfd
    (λ dir. removed_by a.flags (is_named s.fids) tree dir a.name.now) a.name.now c.in_ok-dir.dir
    c.in_ok-dir.ensures
    ∙ plain (is_named s.fids) tree c.in_ok-dir.dir a.name.now a.flags c.if-flags-eq0.true
    ∙ sym (ap (λ (h : ℕ → Bool). unlink_of h tree c.in_ok-dir.dir a.name.now)
    (held_alike (g.H.Host.holds s.host) s.fids s.sound.held))))
    (kept_named (g.H.Host.holds s.host) s.fids s.sound.held tree (g.met.H.Host.stored s.host).kept)
    refl (g.H.Host.tree n) (g.H.Host.calls s.host).faults (g.H.Host.calls n).faults
    (kept_after (g.H.Host.holds s.host) (g.H.Host.holds n) e.holds s.fids s.sound.held
    (g.H.Host.tree n) (g.met.H.Host.stored n).kept)
    c.unlink.result e.leaves e.caused.cause

pub returns-then-flags-eq-P9_AT_REMOVEDIR-clause-step :
    goal.returns-then-flags-eq-P9_AT_REMOVEDIR-clause-step
returns-then-flags-eq-P9_AT_REMOVEDIR-clause-step g c =
    let s = c.args.self.now in
    let n = c.rmdir.new.self in
    let tree = g.H.Host.tree s.host in
    let a = c.args in
    let e = c.rmdir.ensures in
    let before = server_state tree s.fids s.msize s.share in
    passed_step (unlinkat a.dirfd a.name.now a.flags) unlinks tree s.fids s.msize s.share
    (g.H.Host.calls s.host).steady (rmdir_of (is_held (g.H.Host.holds s.host)) tree c.in_ok-dir.dir
    a.name.now)
    (ap (tree_answer before unlinks) (at_named s.fids a.dirfd
    (λ dir. removed_by a.flags (is_named s.fids) tree dir a.name.now) a.name.now c.in_ok-dir.dir
    c.in_ok-dir.ensures
    ∙ whole (is_named s.fids) tree c.in_ok-dir.dir a.name.now a.flags c.if-flags-eq-P9_AT_REMOVEDIR.true
    ∙ sym (ap (λ (h : ℕ → Bool). rmdir_of h tree c.in_ok-dir.dir a.name.now)
    (held_alike (g.H.Host.holds s.host) s.fids s.sound.held))))
    (kept_named (g.H.Host.holds s.host) s.fids s.sound.held tree (g.met.H.Host.stored s.host).kept)
    refl (g.H.Host.tree n) (g.H.Host.calls s.host).faults (g.H.Host.calls n).faults
    (kept_after (g.H.Host.holds s.host) (g.H.Host.holds n) e.holds s.fids s.sound.held
    (g.H.Host.tree n) (g.met.H.Host.stored n).kept)
    c.rmdir.result e.leaves e.caused.cause

pub returns-clause-step : goal.returns-clause-step
returns-clause-step g c =
    let s = c.args.self.now in
    let tree = g.H.Host.tree s.host in
    let a = c.args in
    let before = server_state tree s.fids s.msize s.share in
    refused_step (unlinkat a.dirfd a.name.now a.flags) unlinks unlinks tree s.fids s.msize s.share
    (g.H.Host.calls s.host).steady (removed_by a.flags (is_named s.fids) tree c.in_ok-dir.dir
    a.name.now)
    (ap (tree_answer before unlinks) (at_named s.fids a.dirfd
    (λ dir. removed_by a.flags (is_named s.fids) tree dir a.name.now) a.name.now c.in_ok-dir.dir
    c.in_ok-dir.ensures))
    (kept_named (g.H.Host.holds s.host) s.fids s.sound.held tree (g.met.H.Host.stored s.host).kept)
    (Errno 22) (
      22,
      refl,
      other (is_named s.fids) tree c.in_ok-dir.dir a.name.now a.flags c.if-flags-eq0.false
          c.if-flags-eq-P9_AT_REMOVEDIR.false,
    ) (g.H.Host.calls s.host).faults
