-- What sending bytes gave.
use Rattle.std.specs.Prelude.{ℕ, List, Result, Ok, Err, codes}
use Rattle.port_base.specs.declared.sink.SinkFault.{SinkFault}
use Rattle.port_base.specs.declared.sink.SinkFault.TheVariants.{Failed, NoMemory}
use Rattle.port_base.specs.declared.sink.SentPart.{SentPart}

-- how many of so many bytes were sent
abbrev pub sent_count : ℕ → Result (Unit {0}) SentPart → ℕ
sent_count all (Ok done) = all
sent_count all (Err part) = part.count

-- the fault without the count
abbrev pub fault_of : Result (Unit {0}) SentPart → Result (Unit {0}) SinkFault
fault_of (Ok done) = Ok done
fault_of (Err part) = Err part.fault

-- a fault in words
abbrev pub sink_fault_text : SinkFault → List ℕ
sink_fault_text Failed = codes "the output failed"
sink_fault_text NoMemory = codes "out of memory"
