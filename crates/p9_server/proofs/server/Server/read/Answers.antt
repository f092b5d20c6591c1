-- The bytes that the host tells, or all is as it was.
use Rattle.std.proofs.Common.{Vec, rules}
use Rattle.std.proofs.Common.{arith}
use Rattle.std.proofs.lemmas.Grind.{common_steps}
use Rattle.p9_server.proofs.HoldCounts.{kept_named}
use Rattle.p9_server.proofs.Reading.{unreadable_step, unread_step, readable_held}
use Rattle.p9_server.proofs.Reading.{read_step, failed_step}
use Rattle.tree_model.specs.declared.attributes.HostError.TheVariants.{NoMemory}
use Rattle.p9_server.proofs.Showing.{stopped_step}
use Rattle.p9_server.proofs.server.Server.read.Goals as goal

pub returns-in_err-ino-clause-step : goal.returns-in_err-ino-clause-step
returns-in_err-ino-clause-step g c =
    let s = c.args.self.now in
    let tree = g.H.Host.tree s.host in
    let kept = kept_named (g.H.Host.holds s.host) s.fids s.sound.held tree
    (g.met.H.Host.stored s.host).kept in
    stopped_step c.from_residual.result c.in_err-ino.field-0.0 c.from_residual.ensures.1
    (unreadable_step (λ (v : Vec _ _). v.items) tree s.fids s.msize s.share c.args.fid c.args.offset
    c.args.count kept (g.H.Host.calls s.host).steady (g.H.Host.calls s.host).faults c.in_err-ino.field-0.0
    c.in_err-ino.ensures)

pub returns-in_err-bytes-clause-step : goal.returns-in_err-bytes-clause-step
returns-in_err-bytes-clause-step g c =
    let s = c.args.self.now in
    let tree = g.H.Host.tree s.host in
    let kept = kept_named (g.H.Host.holds s.host) s.fids s.sound.held tree
    (g.met.H.Host.stored s.host).kept in
    let faults = (g.H.Host.calls s.host).faults in
    stopped_step c.from_residual-in_err-bytes.result NoMemory
    c.from_residual-in_err-bytes.ensures.1
    (unread_step (λ (v : Vec _ _). v.items) tree s.fids s.msize s.share c.args.fid c.args.offset
    c.args.count kept (g.H.Host.calls s.host).steady c.in_ok-ino.ino c.in_ok-ino.ensures tree
    (λ j. tree) faults faults (λ j. faults))

pub read_at-requires : goal.read_at-requires
read_at-requires g c =
    let s = c.args.self.now in
    readable_held (g.H.Host.holds s.host) s.fids s.sound.held c.args.fid c.in_ok-ino.ino c.in_ok-ino.ensures
    (g.H.Host.tree s.host) s.msize s.share

pub returns-clause-step : goal.returns-clause-step
returns-clause-step g c =
    let s = c.args.self.now in
    let tree = g.H.Host.tree s.host in
    let kept = kept_named (g.H.Host.holds s.host) s.fids s.sound.held tree
    (g.met.H.Host.stored s.host).kept in
    let e = c.in_ok-count.ensures in
    read_step (λ (v : Vec _ _). v.items) tree s.fids s.msize s.share c.args.fid c.args.offset
    c.args.count kept (g.H.Host.calls s.host).steady c.in_ok-ino.ino c.in_ok-ino.ensures
    (g.H.Host.tree c.read_at.new.self) e.tree (g.H.Host.calls s.host).faults
    (g.H.Host.calls c.read_at.new.self).faults
    _ (search rules) _ _ c.truncate.new.self c.in_ok-count.count e.answer
    (grind (arith, common_steps)) e.caused.cause.counted

pub returns-in_err-count-clause-step : goal.returns-in_err-count-clause-step
returns-in_err-count-clause-step g c =
    let s = c.args.self.now in
    let tree = g.H.Host.tree s.host in
    let kept = kept_named (g.H.Host.holds s.host) s.fids s.sound.held tree
    (g.met.H.Host.stored s.host).kept in
    let e = c.in_err-count.ensures in
    stopped_step c.from_residual-in_err-count.result c.in_err-count.field-0.0 c.from_residual-in_err-count.ensures.1
    (failed_step (λ (v : Vec _ _). v.items) tree s.fids s.msize s.share c.args.fid c.args.offset
    c.args.count kept (g.H.Host.calls s.host).steady c.in_ok-ino.ino c.in_ok-ino.ensures
    (g.H.Host.tree c.read_at.new.self) e.tree (g.H.Host.calls s.host).faults
    (g.H.Host.calls c.read_at.new.self).faults
    _ (search rules) _ _ c.in_err-count.field-0.0 e.answer e.caused.cause)
