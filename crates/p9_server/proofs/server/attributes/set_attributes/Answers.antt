-- Each step goes behind those before it.
use Rattle.std.proofs.Common.{Result}
use Rattle.tree_model.specs.declared.attributes.HostError.{HostError}
use Rattle.fid_model.specs.Setattr.{steps}
use Rattle.p9_server.specs.Setting.{Runs, changes_of}
use Rattle.p9_server.proofs.Showing.{passed_on}
use Rattle.p9_server.proofs.Settings.{size_stopped, times_stopped, all_run}
use Rattle.p9_server.proofs.server.attributes.set_attributes.Goals as goal

pub returns-in_err-set_size-clause-ran : goal.returns-in_err-set_size-clause-ran
returns-in_err-set_size-clause-ran g c =
    let h = c.args.host.now in
    let m = changes_of c.args.m.now in
    let f = c.args.state.now in
    let last = g.H.Host.tree c.set_size.new.host in
    passed_on (λ (r : Result (Unit {0}) HostError). Runs (steps m f) (g.H.Host.tree h) last r)
    c.from_residual-in_err-set_size.result c.in_err-set_size.field-0.0
    c.from_residual-in_err-set_size.ensures.1
    (size_stopped m f (g.H.Host.tree h) (g.H.Host.tree c.set_mode.new.host)
    (g.H.Host.tree c.set_owner.new.host) last c.in_ok-set_mode.ensures.ran
    c.in_ok-set_owner.ensures.ran c.in_err-set_size.field-0.0 c.in_err-set_size.ensures.ran)

pub returns-in_err-set_times-clause-ran : goal.returns-in_err-set_times-clause-ran
returns-in_err-set_times-clause-ran g c =
    let h = c.args.host.now in
    let m = changes_of c.args.m.now in
    let f = c.args.state.now in
    let last = g.H.Host.tree c.set_times.new.host in
    passed_on (λ (r : Result (Unit {0}) HostError). Runs (steps m f) (g.H.Host.tree h) last r)
    c.from_residual-in_err-set_times.result c.in_err-set_times.field-0.0
    c.from_residual-in_err-set_times.ensures.1
    (times_stopped m f (g.H.Host.tree h) (g.H.Host.tree c.set_mode.new.host)
    (g.H.Host.tree c.set_owner.new.host) (g.H.Host.tree c.set_size.new.host)
    c.in_ok-set_mode.ensures.ran c.in_ok-set_owner.ensures.ran c.in_ok-set_size.ensures.ran last
    c.in_err-set_times.field-0.0 c.in_err-set_times.ensures.ran)

pub returns-clause-ran : goal.returns-clause-ran
returns-clause-ran g c =
    let h = c.args.host.now in
    let m = changes_of c.args.m.now in
    let f = c.args.state.now in
    all_run m f (g.H.Host.tree h) (g.H.Host.tree c.set_mode.new.host)
    (g.H.Host.tree c.set_owner.new.host) (g.H.Host.tree c.set_size.new.host)
    c.in_ok-set_mode.ensures.ran c.in_ok-set_owner.ensures.ran c.in_ok-set_size.ensures.ran
    (g.H.Host.tree c.set_times.new.host) c.in_ok-set_times.ensures.ran
    (g.H.Host.tree c.touch_ctime.new.host) c.touch_ctime.result c.touch_ctime.ensures.ran
