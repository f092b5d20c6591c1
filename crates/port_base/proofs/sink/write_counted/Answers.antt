use Rattle.std.proofs.Common.{◌∙◌}
use Rattle.port_base.proofs.Loops.{Sending-more}
use Rattle.port_base.proofs.sink.write_counted.Goals as goal

pub loop-at-preserved : goal.loop-at-preserved
loop-at-preserved g c =
    let e = c.in-Ok.ensures in (
      Sending-more _ _ _ _ _ _ _ _ _ c.args.bytes.now c.loop-at.at c.in-Ok.count
          c.loop-at.invariant.0 e.bound e.bytes e.silent e.room e.cause,
      e.kept
          ∙ c.loop-at.invariant.1,
    )
