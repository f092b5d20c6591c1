-- A time is wanted, and the host's nanoseconds do as well.
use Rattle.std.proofs.Common.{◌≡◌, ℕ, ◌||◌, true, sym, ap, ◌∙◌, subst, Result}
use Rattle.port_base.specs.OpenFlags.{has_flag}
use Rattle.tree_model.specs.AttributeSteps.{new_time}
use Rattle.tree_model.specs.Attributing.{set_times_of}
use Rattle.tree_model.specs.Tree.{Tree}
use Rattle.tree_host.specs.Host.{Leaves}
use Rattle.fid_model.specs.declared.setattr.TheConstants.{P9_SETATTR_ATIME, P9_SETATTR_ATIME_SET}
use Rattle.fid_model.specs.declared.setattr.TheConstants.{P9_SETATTR_MTIME, P9_SETATTR_MTIME_SET}
use Rattle.p9_server.specs.Setting.{changes_of}
use Rattle.p9_server.proofs.Settings.{times_run}
use Rattle.p9_server.proofs.server.attributes.set_times.Goals.{else-not-has_flag-via-then-not-has_flag+else-not-has_flag-2, else-not-has_flag-via-else-not-has_flag}
use Rattle.p9_server.proofs.server.attributes.set_times.Goals as goal

pub returns-clause-ran : goal.returns-clause-ran
returns-clause-ran g c =
    let m = changes_of c.args.m.now in
    let wanted : (has_flag P9_SETATTR_ATIME m.valid || has_flag P9_SETATTR_MTIME m.valid) ≡ true =
    elim c.else-not-has_flag.branch [
      | else-not-has_flag-via-then-not-has_flag+else-not-has_flag-2 w ↦
          (λ j. sym w.if-not-has_flag.ensures j || sym w.if-not-has_flag-2.ensures j)
      | else-not-has_flag-via-else-not-has_flag w ↦
          (λ j. sym w.if-not-has_flag.ensures j || has_flag P9_SETATTR_MTIME m.valid)
    ] in
    let atime = c.new_time-atime.ensures
    ∙ ap (new_time (has_flag P9_SETATTR_ATIME m.valid)
    (has_flag P9_SETATTR_ATIME_SET m.valid)) c.stamp.ensures in
    let mtime = c.new_time-mtime.ensures
    ∙ ap (new_time (has_flag P9_SETATTR_MTIME m.valid)
    (has_flag P9_SETATTR_MTIME_SET m.valid)) c.stamp-2.ensures in
    times_run m c.args.state.now.ino (g.H.Host.tree c.args.host.now)
    (g.H.Host.tree c.set_times.new.self) c.set_times.result wanted
    (subst (λ (x : Result (Unit {0} × Tree) ℕ). Leaves x (g.H.Host.tree c.args.host.now)
    (g.H.Host.tree c.set_times.new.self) c.set_times.result)
    (λ j. set_times_of (g.H.Host.tree c.args.host.now) (c.ino.ensures j) (atime j) (mtime j))
    c.set_times.ensures.leaves)
