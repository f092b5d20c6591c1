-- What a sink of blocks shows of the sink below it.
use Rattle.std.specs.Prelude.{◌≡◌, ℕ, ◌+◌, ◌-◌, ◌^◌, ◌<◌, ◌≤◌, min, List, ◌++◌, length, take, drop}
use Rattle.std.specs.Prelude.{if◌then◌else◌, nat_le, Result, Err}
use Rattle.std.specs.Option.{option_map}
use Rattle.std.specs.declared.option.Option.{Option}
use Rattle.std.specs.Io.KnownBytes.{Keeps}
use Rattle.port_base.specs.Faults.{SinkCause}
use Rattle.port_base.specs.declared.sink.SinkFault.{SinkFault}
use Rattle.port_base.specs.declared.sink.SinkFault.TheVariants.{NoMemory}
use Rattle.port_base.specs.declared.blocks.TheConstants.{BLOCK_LENGTH}

-- what the sink below was sent, and what waits for it: of the bytes it has taken some already
abbrev pub sent_with : Option (List ℕ) → List ℕ → ℕ → Option (List ℕ)
sent_with sent waiting gone = option_map (λ bytes. bytes ++ drop gone waiting) sent

-- what the sink below was sent before the last bytes, so many
abbrev pub sent_before : Option (List ℕ) → ℕ → Option (List ℕ)
sent_before sent passed = option_map (λ bytes. take (length bytes - passed) bytes) sent

-- how many bytes more can be counted beside those that were passed on and those that wait
abbrev pub countable : ℕ → ℕ → ℕ
countable passed left = 2 ^ 64 - 1 - (passed + left)

-- room below beside what waits, and in the count; none where there is no block yet
abbrev pub room_beside : ℕ → ℕ → ℕ → ℕ → ℕ
room_beside capacity room left passed = if nat_le BLOCK_LENGTH capacity
    then min (room - left) (countable passed left) else 0

-- what waits was written below, or a part of it, and nothing more was sent
pub record Passes (sent0 sent1 : Option (List ℕ)) (waiting0 waiting1 : List ℕ)
    (gone0 gone1 passed0 passed1 room0 room1 faults0 faults1 : ℕ)
    (result : Result (Unit {0}) SinkFault) : Type 0 where
  pub same : Keeps (sent_with sent0 waiting0 gone0) (sent_with sent1 waiting1 gone1)
  pub before : sent_before sent1 passed1 ≡ sent_before sent0 passed0
  pub counted : passed1 + (length waiting1 - gone1) ≡ passed0 + (length waiting0 - gone0)
  pub room : room0 - (length waiting0 - gone0) ≤ room1 - (length waiting1 - gone1)
  pub memory : result ≡ Err NoMemory → room0 < length waiting0 - gone0
  pub cause : SinkCause faults0 faults1 result

-- the same was sent, and there is as much room as before; no memory is told only where there was
-- no room
pub record Readies (sent0 sent1 : Option (List ℕ)) (room0 room1 faults0 faults1 : ℕ)
    (result : Result (Unit {0}) SinkFault) : Type 0 where
  pub same : Keeps sent0 sent1
  pub room : room0 ≤ room1
  pub memory : result ≡ Err NoMemory → room0 ≡ 0
  pub cause : SinkCause faults0 faults1 result
