-- The causes of faults, as a run tells them.
use Rattle.port_base.specs.declared.sink.SinkFault.{SinkFault}
use Rattle.port_base.specs.declared.sink.SinkFault.TheVariants as sink
use Rattle.fuse_wire.specs.declared.frames.NextError.{NextError}
use Rattle.fuse_wire.specs.declared.frames.NextError.TheVariants as next
use Rattle.frame_pump.specs.declared.outcome.BridgeError.{BridgeError}
use Rattle.frame_pump.specs.declared.outcome.BridgeError.TheVariants as cause

abbrev pub cause_of_next : NextError → BridgeError
cause_of_next next.Read = cause.Read
cause_of_next next.NoMemory = cause.NoMemory

abbrev pub cause_of_sink : SinkFault → BridgeError
cause_of_sink sink.Failed = cause.Write
cause_of_sink sink.NoMemory = cause.NoMemory
